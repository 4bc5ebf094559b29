use Rattle.std.proofs.lemmas.Bool.{false≢true}
use Rattle.std.proofs.Common.{◌≡◌, ◌∙◌, sym, length, subst, arith, true}
use Rattle.std.specs.Prelude.{All}
use Rattle.rad_lane.specs.Outgoing.{InOrder}
use Rattle.locked_lanes.specs.Inlet.{lane_of, taken}
use Rattle.locked_lanes.specs.Ending.{GoOnFrom, AgreesAmong, IsKnown, IsTheRest}
use Rattle.locked_lanes.proofs.Rests.{rest_goes_on}
use Rattle.locked_lanes.proofs.Inlets.{is_the_rest, all_taken}
use Rattle.locked_lanes.proofs.ending.rest_in.Goals as goal
use Rattle.locked_lanes.proofs.ending.rest_in.Goals.{else-has_taken-via-then-has_taken+else-agree, else-has_taken-via-else-has_taken}

pub agree-requires : goal.agree-requires
agree-requires c =
    let before = taken c.args.inlet.now in
    let rest = c.empty-rest.result.items in
    let after = c.empty-rest.new.self in
    let goes : GoOnFrom (length before) rest = rest_goes_on before rest (subst InOrder c.empty-rest.ensures.took after.in_order) in
    (length before, subst (λ r. GoOnFrom (length before) r) (sym c.as_slice.ensures.value) goes)

pub returns-then-agree : goal.returns-then-agree
returns-then-agree c =
    let inlet = c.args.inlet.now in
    let rest = c.empty-rest.result.items in
    let after = c.empty-rest.new.self in
    let lane : lane_of inlet ≡ c.args.lane = omega arith in
    let count : length (taken after) ≡ c.args.served = c.has_taken.ensures.0 c.if-has_taken.true in
    let agree : All (AgreesAmong rest) c.args.answered.now =
    subst (λ r. All (AgreesAmong r) c.args.answered.now) c.as_slice.ensures.value (c.agree.ensures.0 c.if-agree.true) in
    let known : IsKnown c.args.answered.now c.args.served inlet rest =
    (after, c.empty-rest.ensures, is_the_rest _ _ inlet rest after c.empty-rest.ensures count agree) in
    (lane, subst (IsKnown c.args.answered.now c.args.served inlet) (sym c.from_vec.ensures) known)

pub returns-else-has_taken : goal.returns-else-has_taken
returns-else-has_taken c =
    let inlet = c.args.inlet.now in
    let rest = c.empty-rest.result.items in
    let after = c.empty-rest.new.self in
    let Whole : Type 0 = IsTheRest c.args.answered.now c.args.served (taken inlet) rest in
    let not_whole : ¬ Whole = elim c.else-has_taken.branch [
      | else-has_taken-via-then-has_taken+else-agree w ↦ λ is.
          let agree = subst (λ r. All (AgreesAmong r) c.args.answered.now) (sym w.as_slice.ensures.value) is.agree in
          let yes : w.agree.result ≡ true = w.agree.ensures.1 agree in
          let no = w.if-agree.false in
          false≢true (sym no ∙ yes)
      | else-has_taken-via-else-has_taken w ↦ λ is.
          let yes : c.has_taken.result ≡ true = c.has_taken.ensures.1 (all_taken _ _ inlet rest after c.empty-rest.ensures is) in
          let no = w.if-has_taken.false in
          false≢true (sym no ∙ yes)
    ] in
    λ _. (rest, after, c.empty-rest.ensures, not_whole)
