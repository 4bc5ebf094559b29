use Rattle.std.proofs.Common.{take}
use Rattle.rad_audit.specs.Telling.{Gets, TellsLanes}
use Rattle.rad_audit.proofs.auditing.tell_lanes.Given as goal

-- the lanes so far are told
abbrev pub invariant-loop-lane : goal.invariant-loop-lane
invariant-loop-lane g l =
    Gets (TellsLanes l.fn.name l.fn.run (take l.lane-index l.fn.run.lanes.items)) (g.W.Write.contents l.fn.report.outputs.lines.now) (g.W.Write.contents l.report.outputs.lines.now)
