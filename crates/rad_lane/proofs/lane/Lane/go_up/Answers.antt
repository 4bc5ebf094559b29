use Rattle.std.proofs.Common.{zero-le}
use Rattle.rad_lane.proofs.LawfulAfterWatch.{stands_up, goes_up}
use Rattle.rad_lane.proofs.lane.Lane.go_up.Goals as goal

pub invariant_of-self : goal.invariant_of-self
invariant_of-self g c = record {
  consistent =
      stands_up _ _ _ _ _ _ c.self.inside.slots _ _ _ _ c.self.view_is _ c.requires.later _ _ _ c.self.invariant.consistent _ c.probe.ensures _ _ c.free.ensures c.change_each.ensures.changed c.change_each.ensures.kept;
  bounded = c.self.invariant.bounded;
  none_before = λ slot entry there. zero-le;
}

pub returns : goal.returns
returns g c =
    goes_up _ _ _ _ _ _ c.self.inside.slots _ _ _ _ c.self.view_is _ c.requires.later _ _ _ c.self.invariant.consistent _ c.probe.ensures _ _ c.free.ensures c.change_each.ensures.changed c.change_each.ensures.kept
