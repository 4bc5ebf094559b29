use Rattle.rad_lane.proofs.LawfulAfterWatch.{stands_down}
use Rattle.rad_lane.proofs.lane.Lane.go_down.Goals as goal

pub invariant_of-self : goal.invariant_of-self
invariant_of-self g c = record {
  consistent =
      stands_down _ _ _ _ _ _ c.self.inside.slots _ _ _ _ c.self.view_is _ c.requires.later _ _ _ c.self.invariant.consistent c.requires.is_up _ _;
  bounded = c.self.invariant.bounded;
  none_before = c.self.invariant.none_before;
}
