use Rattle.std.proofs.Common.{◌≤◌, length}
use Rattle.ledger_writer.specs.RunLines.{AreCounted}
use Rattle.ledger_writer.proofs.lines.lane_counts.Given as goal

abbrev pub invariant-loop-lane : goal.invariant-loop-lane
invariant-loop-lane l = AreCounted l.lane l.lanes.items × (l.lane ≤ length l.names.homes.items)
