use Rattle.ledger_writer.proofs.RunLines.{StartsSoFar}
use Rattle.ledger_writer.proofs.lines.lane_starts.Given as goal

abbrev pub invariant-loop-lane : goal.invariant-loop-lane
invariant-loop-lane l = StartsSoFar l.names.homes.items l.is_gone l.progress l.lane l.lanes.items
