use Rattle.std.proofs.Common.{◌≡◌, ◌+◌, [], drop, refl, sym, ap, ◌∙◌, arith}
use Rattle.std.proofs.lemmas.List.{length-drop}
use Rattle.rad_lane.specs.Volumes.{answers_below}
use Rattle.rad_lane.proofs.ListLemmas.{no_items}
use Rattle.rad_lane.proofs.CountedBelow.{one_left, one_less, none_less}
use Rattle.rad_lane.proofs.turning.end_of.Goals as goal
use Rattle.rad_lane.proofs.turning.end_of.Goals.{then-number, else-number}

pub returns : goal.returns
returns c =
    let counted = length-drop c.loop-answer.end c.args.answers.now in
    let none : drop c.loop-answer.end c.args.answers.now ≡ [] = no_items (drop c.loop-answer.end c.args.answers.now) (omega (arith, counted)) in
    record {
      within = omega arith;
      none_behind = ap (λ xs. answers_below c.args.number xs) none;
    }

pub loop-answer-init : goal.loop-answer-init
loop-answer-init c = record { end = refl; left = sym c.requires }

pub overflow_sub-left : goal.overflow_sub-left
overflow_sub-left c =
    one_left c.args.number c.args.answers.now c.loop-answer.answer-index c.loop-answer.left c.answer-item.result c.loop-answer-test.true c.answer-item.is c.loop-answer.invariant.left c.number.result c.number.ensures c.if-number.true

pub loop-answer-preserved : goal.loop-answer-preserved
loop-answer-preserved c = record {
  end = ap (λ n. n + 1) c.loop-answer.invariant.end;
  left = elim c.if-number.branch [
    | then-number w ↦
        one_less c.args.number c.args.answers.now c.loop-answer.answer-index c.loop-answer.left c.answer-item.result c.loop-answer-test.true c.answer-item.is c.loop-answer.invariant.left c.number.result c.number.ensures c.if-number.left w.left-is w.if-number.true
    | else-number w ↦
        none_less c.args.number c.args.answers.now c.loop-answer.answer-index c.loop-answer.left c.answer-item.result c.loop-answer-test.true c.answer-item.is c.loop-answer.invariant.left c.number.result c.number.ensures c.if-number.left w.left-is w.if-number.false
  ];
}

pub returns-then-left-eq0 : goal.returns-then-left-eq0
returns-then-left-eq0 c = record {
  within = rw c.loop-answer.invariant.end c.loop-answer.auto.answer-index-end;
  none_behind = no_items (answers_below c.args.number (drop c.loop-answer.end c.args.answers.now)) (rw c.loop-answer.invariant.end (sym c.loop-answer.invariant.left ∙ c.if-left-eq0.true));
}
