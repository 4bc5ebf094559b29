use Rattle.std.proofs.Common.{◌≡◌, ◌+◌, ◌*◌, ℕ, Bool, true, false, List, Option, refl, sym, subst, ap, ◌∙◌, rules}
use Rattle.rad_desk.specs.Traffic.{Event}
use Rattle.rad_desk.specs.Calls.{Passes, AreAtMost}
use Rattle.rad_desk.specs.Once.{Terms, UntilStopped, DoesOrStops}
use Rattle.rad_desk.proofs.CallsJoined.{passes_none, most_none, most_turn}
use Rattle.rad_desk.proofs.Kept.{passes_left}
use Rattle.rad_desk.proofs.HandOver.{over_none, over_join, over_until, until_whole, works_handing}
use Rattle.rad_desk.proofs.front.front_worker_with.Goals as goal

-- so many turns are the count that is reported
counted : (most : ℕ) {turns count : ℕ} {old new : Option (List Event)} → turns ≡ count → Passes (AreAtMost turns (turns * most)) old new → Passes (AreAtMost count (count * most)) old new
counted most {old = old} {new = new} is = subst (λ n. Passes (AreAtMost n (n * most)) old new) is

-- a turn looks at as many inlets as there were
most_made : {turn inlets now : ℕ} (old mid new : Option (List Event)) → now ≡ inlets → Passes (AreAtMost turn (turn * (1 + inlets))) old mid → Passes (AreAtMost 1 (1 + now)) mid new → Passes (AreAtMost (turn + 1) ((turn + 1) * (1 + inlets))) old new
most_made {turn = turn} {inlets = inlets} old mid new same before made =
    most_turn turn (1 + inlets) old mid new before (subst (λ n. Passes (AreAtMost 1 (1 + n)) mid new) same made)

-- where the turn was not stopped, the front goes on
goes_on : (terms : Terms) (Does : List Event → Type 0) (is : Bool) (old new : Option (List Event)) → is ≡ true → Passes (DoesOrStops is terms Does) old new → Passes Does old new
goes_on terms Does is old new holds = subst (λ b. Passes (DoesOrStops b terms Does) old new) holds

is_stopped : (terms : Terms) (Does : List Event → Type 0) (is : Bool) (old new : Option (List Event)) → is ≡ false → Passes (DoesOrStops is terms Does) old new → Passes (UntilStopped terms Does) old new
is_stopped terms Does is old new fails = subst (λ b. Passes (DoesOrStops b terms Does) old new) fails

pub loop-turn-init : goal.loop-turn-init
loop-turn-init g c = record {
  hands_over = over_none _ _ _ _ _ _ (ap g.W.Wire.log c.new-shift.ensures.log);
  made = passes_none _ _ _ (most_none _ _) (ap g.W.Wire.log c.new-shift.ensures.log);
  turns = c.new-shift.ensures.turns;
  wire = refl;
}

pub loop-turn-preserved : goal.loop-turn-preserved
loop-turn-preserved g c = record {
  hands_over = over_join _ _ _ _ _ _ _ _ _ _ _ _ _ c.loop-turn.invariant.hands_over (goes_on _ _ _ _ _ c.if-not-take_turn.false c.take_turn.ensures.hands_over);
  made = most_made _ _ _ c.loop-turn.auto.inlets c.loop-turn.invariant.made c.take_turn.ensures.made;
  turns = c.take_turn.ensures.keeps.turns;
  wire = c.take_turn.ensures.keeps.wire ∙ c.loop-turn.invariant.wire;
}

pub returns-then-not-take_turn-clause-works : goal.returns-then-not-take_turn-clause-works
returns-then-not-take_turn-clause-works g c =
    passes_left g.W.Wire.log _ _ _ _
    (works_handing _ _ _ _ _ _ _ _ _
    (over_until _ _ _ _ _ _ _ _ _ _ _ _ _ c.loop-turn.invariant.hands_over (is_stopped _ _ _ _ _ c.if-not-take_turn.true c.take_turn.ensures.hands_over))) (search rules)

pub returns-then-not-take_turn-clause-hands_over : goal.returns-then-not-take_turn-clause-hands_over
returns-then-not-take_turn-clause-hands_over g c =
    passes_left g.W.Wire.log _ _ _ _
    (over_until _ _ _ _ _ _ _ _ _ _ _ _ _ c.loop-turn.invariant.hands_over (is_stopped _ _ _ _ _ c.if-not-take_turn.true c.take_turn.ensures.hands_over)) (search rules)

pub returns-clause-works : goal.returns-clause-works
returns-clause-works g c =
    passes_left g.W.Wire.log _ _ _ _ (works_handing _ _ _ _ _ _ _ _ _ (until_whole _ _ _ _ c.loop-turn.invariant.hands_over)) (search rules)

pub returns-clause-hands_over : goal.returns-clause-hands_over
returns-clause-hands_over g c = passes_left g.W.Wire.log _ _ _ _ (until_whole _ _ _ _ c.loop-turn.invariant.hands_over) (search rules)

pub returns-then-not-take_turn-clause-made : goal.returns-then-not-take_turn-clause-made
returns-then-not-take_turn-clause-made g c =
    passes_left g.W.Wire.log _ _ _ _
    (counted _ (sym c.take_turn.ensures.keeps.turns)
    (most_made _ _ _ c.loop-turn.auto.inlets c.loop-turn.invariant.made c.take_turn.ensures.made)) (search rules)

pub returns-clause-made : goal.returns-clause-made
returns-clause-made g c =
    passes_left g.W.Wire.log _ _ _ _ (counted _ (sym c.loop-turn.invariant.turns) c.loop-turn.invariant.made) (search rules)
