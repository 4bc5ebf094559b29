use Rattle.std.proofs.Common.{◌≤◌, [], sym, ap, ◌∙◌, subst}
use Rattle.rtrb.specs.Ring.{received, IsPair}
use Rattle.rad_lane.specs.Book.{Book}
use Rattle.locked_lanes.specs.Outlet.{IsOutlet}
use Rattle.locked_lanes.specs.Fates.{AccountsForAll}
use Rattle.locked_lanes.proofs.Fates.{accounts_at_first}
use Rattle.locked_lanes.proofs.Outlets.{outlet_at_first}
use Rattle.rad_config.specs.declared.limits.LimitNumbers.{LimitNumbers}
use Rattle.locked_lanes.proofs.desk.Desk.pair.Goals as goal

pub returns-clause-book : goal.returns-clause-book
returns-clause-book c = c.in-Ok-new.ensures

pub returns-clause-given : goal.returns-clause-given
returns-clause-given c = c.in-Ok.ensures.producer.0

pub returns-clause-free : goal.returns-clause-free
returns-clause-free c = c.in-Ok.ensures.producer.1 ∙ ap (λ (n : LimitNumbers). n.ring) (c.numbers-places.ensures.value ∙ c.limits.ensures.value)

pub returns-clause-lane : goal.returns-clause-lane
returns-clause-lane c = c.new-2.ensures.lane ∙ c.lane-number.ensures

pub returns-clause-taken : goal.returns-clause-taken
returns-clause-taken c = ap (λ t. received t) c.new-2.ensures.taker ∙ c.in-Ok.ensures.consumer.0

pub returns-clause-ring : goal.returns-clause-ring
returns-clause-ring c = subst (λ t. IsPair c.in-Ok.giver t) (sym c.new-2.ensures.taker) c.in-Ok.ensures.pair

pub new-requires-2 : goal.new-requires-2
new-requires-2 c = c.in-Ok.ensures.consumer.0

pub invariant_of-desk : goal.invariant_of-desk
invariant_of-desk c =
    let made = sym c.in-Ok-new.ensures in
    record {
      outlet = subst (IsOutlet c.in-Ok-new.lane) (sym c.in-Ok.ensures.producer.0) (subst (λ b. IsOutlet b []) made (outlet_at_first c.args.setup));
      accounted = subst (AccountsForAll c.in-Ok-new.lane) (sym c.in-Ok.ensures.producer.0) (subst (λ b. AccountsForAll b []) made (accounts_at_first c.args.setup));
      bounded = subst (λ (b : Book). b.setup.limits.queue ≤ 65536) made (subst (λ (n : LimitNumbers). n.queue ≤ 65536) c.limits.ensures.value c.numbers-places.ensures.in_range.queue.1);
      numbered = ap (λ (b : Book). b.setup.lane) c.in-Ok-new.ensures ∙ sym c.lane-number.ensures;
      limited = ap (λ (b : Book). b.setup.limits) c.in-Ok-new.ensures ∙ sym c.limits.ensures.value;
    }
