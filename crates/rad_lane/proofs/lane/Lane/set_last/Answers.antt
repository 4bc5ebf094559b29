use Rattle.rad_lane.proofs.LawfulUnchanged.{stands_later}
use Rattle.rad_lane.proofs.lane.Lane.set_last.Goals as goal

pub invariant_of-self : goal.invariant_of-self
invariant_of-self g c = record {
  consistent =
      stands_later _ _ _ _ _ _ c.self.inside.slots _ _ _ _ c.self.view_is _ c.requires _ _ _ _ c.self.invariant.consistent;
  bounded = c.self.invariant.bounded;
  none_before = c.self.invariant.none_before;
}
