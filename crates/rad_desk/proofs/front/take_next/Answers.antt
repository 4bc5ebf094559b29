use Rattle.std.proofs.Common.{refl}
use Rattle.rad_desk.proofs.FrontWork.{hands_none, hands_one}
use Rattle.rad_desk.proofs.HandOver.{keeps_none, keeps_one}
use Rattle.rad_desk.proofs.front.take_next.Goals as goal

pub returns-in_default-clause-hands : goal.returns-in_default-clause-hands
returns-in_default-clause-hands g c = hands_none _ _ c.take-taken.ensures.same c.in_default.ensures.none _ _ refl

pub returns-in_default-clause-taken : goal.returns-in_default-clause-taken
returns-in_default-clause-taken g c = keeps_none _ _ c.in_default.ensures.none _ _

pub returns-clause-hands : goal.returns-clause-hands
returns-clause-hands g c = hands_one _ _ c.in-Some.outgoing _ c.take-taken.ensures.same c.in-Some.ensures.some c.in-Some.ensures.answers c.response.ensures _ _ c.send.ensures.sends

pub returns-clause-taken : goal.returns-clause-taken
returns-clause-taken g c = keeps_one _ _ c.in-Some.outgoing c.in-Some.ensures.some _ _ _ c.keep.ensures
