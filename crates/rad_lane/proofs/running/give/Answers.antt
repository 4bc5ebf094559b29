use Rattle.std.proofs.Common.{refl}
use Rattle.rad_lane.proofs.running.give.Goals as goal

pub accept-requires : goal.accept-requires
accept-requires g c = rw c.in-Accept.is at c.requires

pub returns-in-Accept : goal.returns-in-Accept
returns-in-Accept g c = rw c.in-Accept.is c.accept.ensures

pub returns-in-Step : goal.returns-in-Step
returns-in-Step g c = rw c.in-Step.is (c.step.ensures.steps, c.step.ensures.another)

pub returns-in-Hear : goal.returns-in-Hear
returns-in-Hear g c = rw c.in-Hear.is (c.hear.ensures, refl)

pub returns-in-Drain : goal.returns-in-Drain
returns-in-Drain g c = rw c.in-Drain.is (c.drain.ensures, refl)

pub returns-in-Turn : goal.returns-in-Turn
returns-in-Turn g c = rw c.in-Turn.is (c.turn.ensures.turns, refl)
