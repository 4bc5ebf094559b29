use Rattle.std.proofs.Common.{◌≡◌, List, refl, sym, ap, ◌∙◌, subst, arith}
use Rattle.rad_lane.specs.declared.counts.Counts.{Counts}
use Rattle.rad_lane.specs.Stamp.{Kept}
use Rattle.rad_lane.specs.Outstanding.{AnswerKept}
use Rattle.rad_lane.specs.Closes.{Left}
use Rattle.std.specs.Prelude.{map as each, length}
use Rattle.std.proofs.lemmas.List.{length-map}
use Rattle.std.specs.FinMap as map
use Rattle.rad_tables.specs.declared.slots.Slot.{Slot}
use Rattle.rad_tables.specs.Pairs.{Table}
use Rattle.rad_lane.specs.declared.entry.Entry.{Entry}
use Rattle.rad_lane.specs.Entries.{but_a_probe}
use Rattle.locked_lanes.specs.Desk.{book}
use Rattle.locked_lanes.specs.Ending.{TellsRest}
use Rattle.locked_lanes.proofs.Accounting.{accounts}
use Rattle.locked_lanes.proofs.ending.end_of.Goals as goal

pub returns-clause-end : goal.returns-clause-end
returns-clause-end c =
    let parts = c.into_parts-parts.result in
    let left = c.close.result in
    let leaves = c.close.ensures.leaves in
    let made = sym c.into_parts-parts.ensures in
    let accepted = ap (λ (l : Left). l.accepted) made in
    let answered = ap (λ (l : Left). l.answered) made in
    let outstanding = ap (λ (l : Left). l.outstanding) made in
    let lawful = c.close.ensures.lawful in
    let counts = c.counts-counts.ensures.counts in
    let its_answers : c.as_slice.result.now ≡ (book c.args.desk).answered = c.as_slice.ensures ∙ answered ∙ leaves.answered in
    let served = ap (λ (k : Counts). k.answered) counts in
    let told = subst (λ (xs : List AnswerKept). TellsRest c.args.lane xs c.counts-counts.result.answered c.args.inlet c.rest_of-rest.result) its_answers c.rest_of-rest.ensures in
    record {
      lane_is = refl;
      lawful = lawful;
      counts = counts;
      accepted = accepted ∙ leaves.accepted;
      answered = answered ∙ leaves.answered;
      outstanding = subst (λ (t : Table Entry). (slot : Slot) → map.get t.entries slot ≡ but_a_probe (map.get (book c.args.desk).held slot)) (sym outstanding) leaves.outstanding;
      ports = ap (λ (t : Table Entry). t.ports) outstanding ∙ leaves.ports;
      allotted = ap (λ (t : Table Entry). t.allotted) outstanding ∙ leaves.allotted;
      accounts = accounts (book c.args.desk) left _ lawful leaves (record { accepted = accepted; answered = answered; outstanding = outstanding }) counts;
      rest = subst (λ n. TellsRest c.args.lane (book c.args.desk).answered n c.args.inlet c.rest_of-rest.result) served told;
    }

pub rest_of-rest-requires : goal.rest_of-rest-requires
rest_of-rest-requires c = c.requires

pub returns-clause-queued : goal.returns-clause-queued
returns-clause-queued c = ap (λ (l : Left). l.queued) (sym c.into_parts-parts.ensures) ∙ c.close.ensures.leaves.queued

pub returns-clause-bounded : goal.returns-clause-bounded
returns-clause-bounded c =
    let kept = c.into_parts-parts.result.queued.items in
    let queued : each (λ (k : Kept). k.recorded) kept ≡ (book c.args.desk).queued =
    ap (λ (l : Left). l.queued) (sym c.into_parts-parts.ensures) ∙ c.close.ensures.leaves.queued in
    omega (arith, length-map kept (λ (k : Kept). k.recorded), ap length queued, c.close.ensures.lawful.queued_bounded, c.close.ensures.bounded)
