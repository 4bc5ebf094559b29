use Rattle.std.proofs.Common.{◌≡◌, ◌+◌, Bool, true, false, List, Option, length, arith, subst}
use Rattle.rad_desk.specs.Traffic.{Event}
use Rattle.rad_desk.specs.Calls.{Passes}
use Rattle.rad_desk.specs.Handling.{Outcome}
use Rattle.rad_desk.specs.Once.{Terms, terms_of, TakesIn, TakesInOnce, IsLeftUntaken}
use Rattle.rad_desk.proofs.CallsJoined.{passes_widen, most_join, most_more}
use Rattle.rad_desk.proofs.FrontWork.{most_taken}
use Rattle.rad_desk.proofs.HandOver.{over_join, over_by_taking, over_stopped, does_or_stops, stops_here}
use Rattle.rad_desk.proofs.front.take_turn.Goals as goal

-- where something was taken in, the front goes on; else it is stopped
goes_on : (terms : Terms) (before after : List Outcome) (is : Bool) (old new : Option (List Event)) → is ≡ true → Passes (TakesInOnce is terms before after) old new → Passes (TakesIn terms before after) old new
goes_on terms before after is old new holds = subst (λ b. Passes (TakesInOnce b terms before after) old new) holds

stops : (terms : Terms) (before after : List Outcome) (is : Bool) (old new : Option (List Event)) → is ≡ false → Passes (TakesInOnce is terms before after) old new → Passes (TakesInOnce false terms before after) old new
stops terms before after is old new fails = subst (λ b. Passes (TakesInOnce b terms before after) old new) fails

left : (terms : Terms) (before after : List Outcome) (old new : Option (List Event)) → Passes (TakesInOnce false terms before after) old new → Passes (IsLeftUntaken terms) old new
left terms before after = passes_widen (TakesInOnce false terms before after) (IsLeftUntaken terms) (λ events stopped. stopped.0)

pub returns-then-take_in-clause-hands_over : goal.returns-then-take_in-clause-hands_over
returns-then-take_in-clause-hands_over g c =
    does_or_stops _ _ _ _ _
    (over_join _ _ _ _ _ _ _ _ _ _ _ _ _ (over_by_taking _ _ _ _ _ _ c.take_in.ensures.kept _ _ (goes_on _ _ _ _ _ _ c.if-take_in.true c.take_in.ensures.takes_in))
    (c.hand_out.ensures.hands_over _ _))

pub returns-else-take_in-clause-hands_over : goal.returns-else-take_in-clause-hands_over
returns-else-take_in-clause-hands_over g c =
    let stopped = stops (terms_of c.args.config.now (g.M.Memory.remembered c.args.memory.now)) _ _ _ _ _ c.if-take_in.false c.take_in.ensures.takes_in in
    stops_here (terms_of c.args.config.now (g.M.Memory.remembered c.args.memory.now)) _ _ _ _ c.if-take_in.false (over_stopped _ _ _ _ _ _ stopped.right.1 c.take_in.ensures.kept _ _ (left (terms_of c.args.config.now (g.M.Memory.remembered c.args.memory.now)) _ _ _ _ stopped))

pub returns-then-take_in-clause-made : goal.returns-then-take_in-clause-made
returns-then-take_in-clause-made g c =
    let inlets = c.args.inlets.now in
    most_join 1 1 0 (length inlets) 1 (1 + length inlets) (omega arith) (omega arith) _ _ _ (most_taken _ _ _ _ _ _ c.take_in.ensures.takes_in) c.hand_out.ensures.sends

pub returns-else-take_in-clause-made : goal.returns-else-take_in-clause-made
returns-else-take_in-clause-made g c =
    most_more 1 1 1 (1 + length c.args.inlets.now) (omega arith) (omega arith) _ _ (most_taken _ _ _ _ _ _ c.take_in.ensures.takes_in)
