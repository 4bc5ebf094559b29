use Rattle.std.proofs.Common.{subst, arith}
use Rattle.std.proofs.lemmas.List.Elements.{All-more}
use Rattle.rad_lane.specs.internal.Cutting.{IsOverBy}
use Rattle.rad_lane.proofs.turning.count_over.Goals as goal

pub loop-answer_index-preserved : goal.loop-answer_index-preserved
loop-answer_index-preserved c = record {
  count = omega arith;
  over =
      All-more (IsOverBy c.args.span c.args.now) c.args.indices.now c.loop-answer_index.answer_index-index c.answer_index-item.result c.loop-answer_index-test.true c.loop-answer_index.invariant.over
      (subst (IsOverBy c.args.span c.args.now) c.answer_index-item.is c.if-not-is_over.ensures.over);
}
