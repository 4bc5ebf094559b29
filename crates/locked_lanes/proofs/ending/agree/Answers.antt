use Rattle.std.proofs.Common.{◌≡◌, List, [], ◌∷◌, None, length, refl, sym, ◌∙◌, subst, arith}
use Rattle.std.specs.Prelude.{All, slice_get}
use Rattle.std.proofs.lemmas.Bool.{false≢true}
use Rattle.locked_lanes.specs.Ending.{AgreesAmong}
use Rattle.locked_lanes.proofs.Rooms.{all_more}
use Rattle.locked_lanes.proofs.ending.agree.Goals as goal

-- a list without a first element is empty
none_if_no_first : {X : Type 0} (xs : List X) → None ≡ slice_get xs 0 → length xs ≡ 0
none_if_no_first [] none = refl
none_if_no_first (x ∷ xs) none = cc

pub loop-answer-init : goal.loop-answer-init
loop-answer-init c = λ k d below. absurd (omega arith)

pub loop-answer-preserved : goal.loop-answer-preserved
loop-answer-preserved c =
    all_more (AgreesAmong c.args.rest.now) c.args.answered.now c.loop-answer.answer-index c.answer-item.result c.loop-answer-test.true c.answer-item.is (c.agrees_among.ensures.0 c.if-not-agrees_among.false) c.loop-answer.invariant

pub returns : goal.returns
returns c = (λ _ k d within. c.loop-answer.invariant k d (omega (arith, within)), λ _. refl)

pub returns-in_default : goal.returns-in_default
returns-in_default c = (λ _ k d within l e inside. absurd (omega (arith, none_if_no_first _ c.in_default.ensures.value, inside)), λ _. refl)

pub returns-then-not-agrees_among : goal.returns-then-not-agrees_among
returns-then-not-agrees_among c =
    let item = c.answer-item.result in
    let here : All (AgreesAmong c.args.rest.now) c.args.answered.now → AgreesAmong c.args.rest.now item = λ all.
    subst (AgreesAmong c.args.rest.now) (sym c.answer-item.is) (all c.loop-answer.answer-index item c.loop-answer-test.true) in
    (λ no. absurd (false≢true no), λ all. absurd (false≢true (sym c.if-not-agrees_among.true ∙ c.agrees_among.ensures.1 (here all))))
