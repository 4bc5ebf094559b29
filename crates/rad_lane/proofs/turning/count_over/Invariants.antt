use Rattle.std.proofs.Common.{◌≡◌, take}
use Rattle.std.specs.Prelude.{All}
use Rattle.rad_lane.specs.internal.Cutting.{IsOverBy}
use Rattle.rad_lane.proofs.turning.count_over.Given as goal

abbrev pub invariant-loop-answer_index : goal.invariant-loop-answer_index
invariant-loop-answer_index l = record {
  count : l.count ≡ l.answer_index-index;
  over : All (IsOverBy l.span l.now) (take l.answer_index-index l.indices);
}
