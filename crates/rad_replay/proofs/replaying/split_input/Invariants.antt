use Rattle.std.proofs.Common.{◌≤◌, length, suc}
use Rattle.rad_replay.specs.Pieces.{pieces_left}
use Rattle.rad_replay.proofs.replaying.split_input.Given as goal

abbrev pub invariant-loop-line : goal.invariant-loop-line
invariant-loop-line l = (l.before ≤ length l.input) × (pieces_left l.lines ≤ suc (length l.input))

abbrev pub decreases-loop-line : goal.decreases-loop-line
decreases-loop-line l = pieces_left l.lines
