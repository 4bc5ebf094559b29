use Rattle.std.proofs.Common.{◌≡◌, ℕ, zero, suc, ◌<◌, ◌↔◌, Bool, true, false, IsTrue, [], ◌∷◌, ◌++◌, length, refl, sym, ap, ◌∙◌, subst, arith}
use Rattle.std.specs.Prelude.{Ok}
use Rattle.rad_lane.specs.declared.hearing.Heard.TheVariants.{Answer, ProbeAnswered}
use Rattle.rad_lane.specs.Hears.{Hears}
use Rattle.rtrb.specs.Ring.{known_free}
use Rattle.locked_lanes.specs.Outlet.{IsOutlet}
use Rattle.locked_lanes.specs.Fates.{AccountsForAll, answered_with, marked_number}
use Rattle.rad_lane.specs.Book.{moment_in}
use Rattle.locked_lanes.proofs.Answers.{same_by_probe}
use Rattle.locked_lanes.proofs.Fates.{accounts_by_reply, accounts_by_probe, unanswered, answers_record}
use Rattle.locked_lanes.proofs.Outlets.{outlet_answered, bounded_answered, numbered_answered, limited_answered, outlet_same, bounded_same, numbered_same, limited_same}
use Rattle.locked_lanes.proofs.desk.Desk.hear.Goals as goal
use Rattle.locked_lanes.proofs.desk.Desk.hear.Goals.{In-Ok-ProbeAnswered}

-- a ring that is not full has a free place
some_free : (free : ℕ) (full : Bool) → IsTrue full ↔ (free ≡ 0) → full ≡ false → 0 < free
some_free zero full is other = let same : full ≡ true = is.1 refl in absurd cc
some_free (suc free) full is other = omega arith

pub give-serial-requires-clause-place : goal.give-serial-requires-clause-place
give-serial-requires-clause-place c = some_free (known_free c.is_full.new.self) _ c.is_full.ensures.value c.if-is_full.false

pub give-serial-requires-clause-next : goal.give-serial-requires-clause-next
give-serial-requires-clause-next c =
    let response = c.in-Ok-Answer.response in
    let heard : Hears c.args.self.now.lane c.args.moment c.args.port c.args.datagram.now (Ok (Answer response)) c.hear-heard.new.self =
    subst (λ h. Hears c.args.self.now.lane c.args.moment c.args.port c.args.datagram.now (Ok h) c.hear-heard.new.self) c.in-Ok-Answer.field-0-is c.in-Ok-Answer.ensures in
    let same = c.is_full.ensures.looked.1 in
    record {
      serial = heard.2.serial ∙ heard.1.keeps.serial ∙ sym c.args.self.now.outlet.served ∙ ap length (sym same);
      first = ap (answered_with (marked_number response.reply.sending)) same ∙ unanswered _ _ _ _ _ _ _ _ c.keep_law.ensures c.keep_law_of.ensures heard.1 heard.2 c.args.self.now.accounted;
      answers = answers_record _ _ _ _ _ _ _ c.keep_law_of.ensures heard.1 heard.2;
    }

pub invariant_of-self-in-Ok-Answer : goal.invariant_of-self-in-Ok-Answer
invariant_of-self-in-Ok-Answer c =
    let response = c.in-Ok-Answer.response in
    let heard : Hears c.args.self.now.lane c.args.moment c.args.port c.args.datagram.now (Ok (Answer response)) c.hear-heard.new.self =
    subst (λ h. Hears c.args.self.now.lane c.args.moment c.args.port c.args.datagram.now (Ok h) c.hear-heard.new.self) c.in-Ok-Answer.field-0-is c.in-Ok-Answer.ensures in
    let given = c.give-serial.ensures.sent ∙ ap (λ g. g ++ response ∷ []) c.is_full.ensures.looked.1 in
    record {
      accounted = subst (AccountsForAll c.hear-heard.new.self) (sym given) (accounts_by_reply _ _ _ _ _ _ _ _ c.keep_law.ensures c.keep_law_of.ensures heard.1 heard.2 c.args.self.now.accounted);
      outlet = subst (IsOutlet c.hear-heard.new.self) (sym given) (outlet_answered _ _ _ _ _ _ _ _ heard.1 heard.2 c.args.self.now.outlet);
      bounded = bounded_answered _ _ _ _ _ _ heard.1 c.args.self.now.bounded;
      numbered = numbered_answered _ _ _ _ _ _ _ heard.1 c.args.self.now.numbered;
      limited = limited_answered _ _ _ _ _ _ _ heard.1 c.args.self.now.limited;
    }

pub returns-in-Ok-Answer : goal.returns-in-Ok-Answer
returns-in-Ok-Answer c =
    let response = c.in-Ok-Answer.response in
    let heard : Hears c.args.self.now.lane c.args.moment c.args.port c.args.datagram.now (Ok (Answer response)) c.hear-heard.new.self =
    subst (λ h. Hears c.args.self.now.lane c.args.moment c.args.port c.args.datagram.now (Ok h) c.hear-heard.new.self) c.in-Ok-Answer.field-0-is c.in-Ok-Answer.ensures in
    let free = known_free c.is_full.new.self in
    let looked = c.is_full.ensures.looked.0 in
    let ring = c.give-serial.ensures.ring in
    let given = c.give-serial.ensures.sent ∙ ap (λ g. g ++ response ∷ []) c.is_full.ensures.looked.1 in
    record {
      free = free;
      seen = c.is_full.ensures.looked.2;
      tells = (some_free free _ c.is_full.ensures.value c.if-is_full.false, response, c.give-serial.ensures.serial, heard, given, sym c.give-serial.ensures.free);
      ring = ((ring.0.0 ∙ looked.0.0, ring.0.1 ∙ looked.0.1, ring.0.2 ∙ looked.0.2, ring.0.3 ∙ looked.0.3), ring.1 ∙ looked.1);
    }

-- the lane hears this datagram as the answer to its probe
heard_probe : (c : In-Ok-ProbeAnswered) → Hears c.args.self.now.lane c.args.moment c.args.port c.args.datagram.now (Ok ProbeAnswered) c.hear-heard.new.self
heard_probe c = subst (λ h. Hears c.args.self.now.lane c.args.moment c.args.port c.args.datagram.now (Ok h) c.hear-heard.new.self) c.in-Ok-ProbeAnswered.field-0-is c.in-Ok-ProbeAnswered.ensures

pub invariant_of-self : goal.invariant_of-self
invariant_of-self c = record {
  accounted = subst (AccountsForAll c.args.self.now.lane) (sym c.is_full.ensures.looked.1) c.args.self.now.accounted;
  outlet = subst (IsOutlet c.args.self.now.lane) (sym c.is_full.ensures.looked.1) c.args.self.now.outlet;
  bounded = c.args.self.now.bounded;
  numbered = c.args.self.now.numbered;
  limited = c.args.self.now.limited;
}

pub returns-then-is_full : goal.returns-then-is_full
returns-then-is_full c =
    let looked = c.is_full.ensures.looked in
    record {
      free = known_free c.is_full.new.self;
      seen = looked.2;
      tells = (c.is_full.ensures.value.0 c.if-is_full.true, refl, looked.1, refl);
      ring = looked.0;
    }

pub invariant_of-self-in-Ok-ProbeAnswered : goal.invariant_of-self-in-Ok-ProbeAnswered
invariant_of-self-in-Ok-ProbeAnswered c =
    let old = c.args.self.now.lane in
    let new = c.hear-heard.new.self in
    let same = same_by_probe old new (moment_in old c.args.moment) c.args.port c.args.datagram.now (heard_probe c) in
    record {
      accounted = subst (AccountsForAll new) (sym c.is_full.ensures.looked.1) (accounts_by_probe old new _ _ _ _ c.keep_law.ensures c.keep_law_of.ensures (heard_probe c) c.args.self.now.accounted);
      outlet = subst (IsOutlet new) (sym c.is_full.ensures.looked.1) (outlet_same old new _ same c.args.self.now.outlet);
      bounded = bounded_same old new same c.args.self.now.bounded;
      numbered = numbered_same old new _ same c.args.self.now.numbered;
      limited = limited_same old new _ same c.args.self.now.limited;
    }

pub returns-in-Ok-ProbeAnswered : goal.returns-in-Ok-ProbeAnswered
returns-in-Ok-ProbeAnswered c =
    let looked = c.is_full.ensures.looked in
    let free = known_free c.is_full.new.self in
    record {
      free = free;
      seen = looked.2;
      tells = (some_free free _ c.is_full.ensures.value c.if-is_full.false, heard_probe (goal.at.returns-in-Ok-ProbeAnswered c).In-Ok-ProbeAnswered, looked.1, refl);
      ring = looked.0;
    }

pub returns-in-Err : goal.returns-in-Err
returns-in-Err c =
    let looked = c.is_full.ensures.looked in
    let free = known_free c.is_full.new.self in
    record {
      free = free;
      seen = looked.2;
      tells = (some_free free _ c.is_full.ensures.value c.if-is_full.false, c.in-Err.ensures, looked.1, refl);
      ring = looked.0;
    }
