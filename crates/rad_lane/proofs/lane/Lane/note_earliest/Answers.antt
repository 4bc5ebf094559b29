use Rattle.std.proofs.Common.{sym, subst}
use Rattle.rad_lane.specs.internal.NextDue.{NoneBefore}
use Rattle.rad_lane.proofs.NextDueFound.{before_earliest, least_seen}
use Rattle.rad_lane.proofs.lane.Lane.note_earliest.Goals as goal

pub invariant_of-self : goal.invariant_of-self
invariant_of-self g c = record {
  consistent = c.self.invariant.consistent;
  bounded = c.self.invariant.bounded;
  none_before = subst (λ n. NoneBefore c.self.inside.slots.entries n) (sym c.unwrap_or-self-inside.ensures) (before_earliest _ _ _ c.earliest_due-earliest.ensures);
}

pub returns-clause-earliest : goal.returns-clause-earliest
returns-clause-earliest g c =
    least_seen _ _ c.self.view_is c.requires c.self.invariant.consistent.lawful.probe_apart _ c.earliest_due-earliest.ensures
