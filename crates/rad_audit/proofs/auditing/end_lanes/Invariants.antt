use Rattle.std.proofs.Common.{take}
use Rattle.rad_audit.specs.Lanes.{EndWith}
use Rattle.rad_audit.proofs.auditing.end_lanes.Given as goal

-- the counts so far are taken
abbrev pub invariant-loop-count : goal.invariant-loop-count
invariant-loop-count g l = EndWith l.fn.end.run (take l.count-index l.fn.end.lanes.items) l.fn.runs l.runs
