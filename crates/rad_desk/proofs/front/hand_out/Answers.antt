use Rattle.std.proofs.Common.{◌<◌, ◌≤◌, ◌+◌, length, refl, arith}
use Rattle.rad_desk.proofs.CallsJoined.{passes_none, most_none, most_join, most_more}
use Rattle.rad_desk.proofs.FrontWork.{most_handed}
use Rattle.rad_desk.proofs.Kept.{keeps_all, keeps_then}
use Rattle.rad_desk.proofs.HandOver.{over_none, over_join, over_by_handing}
use Rattle.rad_desk.proofs.front.hand_out.Goals as goal

pub loop-place-init : goal.loop-place-init
loop-place-init g c = record { hands_over = λ terms came. over_none terms _ came _ _ _ refl; sends = passes_none _ _ _ (most_none 0 0) refl; keeps = keeps_all _ }

pub loop-place-preserved : goal.loop-place-preserved
loop-place-preserved g c =
    let before = c.loop-place.invariant in
    let within : c.loop-place.place < length c.loop-place.inlets = omega (arith, c.loop-place-test.true, c.loop-place.auto.inlets) in
    record {
      hands_over = λ terms came.
          over_join terms _ _ _ came came came _ _ _ _ _ _ (before.hands_over terms came)
          (over_by_handing terms _ _ _ _ within came _ _ _ _ c.take.ensures.taken c.take.ensures.hands);
      sends = most_join 0 c.loop-place.place 0 1 0 (c.loop-place.place + 1) (omega arith) (omega arith) _ _ _ before.sends (most_handed _ _ _ _ c.take.ensures.hands);
      keeps = keeps_then _ _ _ before.keeps c.take.ensures.keeps;
    }

pub returns-then-not-may-clause-sends : goal.returns-then-not-may-clause-sends
returns-then-not-may-clause-sends g c =
    let within : c.loop-place.place ≤ length c.args.inlets.now = omega (arith, c.loop-place-test.true, c.loop-place.auto.inlets) in
    most_more 0 c.loop-place.place 0 _ (omega arith) within _ _ c.loop-place.invariant.sends

pub returns-clause-sends : goal.returns-clause-sends
returns-clause-sends g c =
    let within : c.loop-place.place ≤ length c.args.inlets.now = omega (arith, c.loop-place-test.false, c.loop-place.auto.inlets) in
    most_more 0 c.loop-place.place 0 _ (omega arith) within _ _ c.loop-place.invariant.sends
