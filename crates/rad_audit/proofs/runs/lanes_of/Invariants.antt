use Rattle.std.proofs.Common.{ℕ, take}
use Rattle.rad_audit.specs.Lanes.{BeginsLane, standing_in}
use Rattle.rad_audit.proofs.runs.lanes_of.Given as goal

-- the lanes so far are those of the starts so far
abbrev pub invariant-loop-start : goal.invariant-loop-start
invariant-loop-start l = (number : ℕ) → BeginsLane number (take l.start-index l.fn.begin.lanes.items) (standing_in number l.lanes.items)
