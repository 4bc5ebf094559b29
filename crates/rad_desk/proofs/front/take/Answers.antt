use Rattle.std.proofs.Common.{refl}
use Rattle.rad_desk.proofs.FrontWork.{hands_nothing}
use Rattle.rad_desk.proofs.HandOver.{keeps_none}
use Rattle.rad_desk.proofs.front.take.Goals as goal

pub returns-then-not-may_have_response-clause-hands : goal.returns-then-not-may_have_response-clause-hands
returns-then-not-may_have_response-clause-hands g c = hands_nothing _ _ _ refl

pub returns-then-not-may_have_response-clause-taken : goal.returns-then-not-may_have_response-clause-taken
returns-then-not-may_have_response-clause-taken g c = keeps_none _ _ refl _ _

pub returns-clause-hands : goal.returns-clause-hands
returns-clause-hands g c = c.take_next.ensures.hands

pub returns-clause-taken : goal.returns-clause-taken
returns-clause-taken g c = c.take_next.ensures.taken
