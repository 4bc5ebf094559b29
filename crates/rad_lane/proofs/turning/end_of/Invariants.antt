use Rattle.std.proofs.Common.{◌≡◌, length, drop}
use Rattle.rad_lane.specs.Volumes.{answers_below}
use Rattle.rad_lane.proofs.turning.end_of.Given as goal

abbrev pub invariant-loop-answer : goal.invariant-loop-answer
invariant-loop-answer l = record {
  end : l.end ≡ l.answer-index;
  left : l.left ≡ length (answers_below l.number (drop l.answer-index l.answers));
}
