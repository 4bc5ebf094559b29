use Rattle.std.proofs.Common.{arith}
use Rattle.rad_lane.proofs.NextDueFound.{none_before}
use Rattle.rad_lane.proofs.lane.Lane.step_while_up.Goals as goal

-- where no entry is due yet, no sending is
pub go_on-requires-clause-fresh : goal.go_on-requires-clause-fresh
go_on-requires-clause-fresh g c = none_before _ _ c.self.view_is _ _ c.self.invariant.none_before (omega (arith, c.if-get-self.true, c.get.ensures.value)) _

pub go_on-requires-clause-spent : goal.go_on-requires-clause-spent
go_on-requires-clause-spent g c = none_before _ _ c.self.view_is _ _ c.self.invariant.none_before (omega (arith, c.if-get-self.true, c.get.ensures.value)) _
