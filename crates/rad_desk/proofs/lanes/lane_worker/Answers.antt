use Rattle.std.proofs.Common.{◌≡◌, ◌+◌, ℕ, Bool, true, false, Option, List, refl, sym, subst, ap, ◌∙◌, rules, arith}
use Rattle.rad_realms.specs.Configuration.{HomeEntry}
use Rattle.rad_desk.specs.Traffic.{Event}
use Rattle.rad_desk.specs.Calls.{Passes, AreAtMost}
use Rattle.rad_desk.specs.Working.{IsReceipt, IsStep, OncePassed, IsLeftUnheard, ReceivesOnce}
use Rattle.rad_desk.proofs.CallsJoined.{passes_none, most_none, most_join, most_more}
use Rattle.rad_desk.proofs.Kept.{passes_left}
use Rattle.rad_desk.proofs.HomeWork.{works_none, works_join, works_by_part, works_whole, works_stopped, receives_once, leaves_once, sends_once}
use Rattle.rad_desk.proofs.lanes.lane_worker.Goals as goal

-- so many turns are the count that is reported
subst_turns : {turns count : ℕ} {old new : Option (List Event)} → turns ≡ count → Passes (AreAtMost turns turns) old new → Passes (AreAtMost count count) old new
subst_turns {old = old} {new = new} is = subst (λ n. Passes (AreAtMost n n) old new) is

-- where the worker received, it goes on, or it is stopped
goes_on : (lane : ℕ) (home : HomeEntry) (is : Bool) (old new : Option (List Event)) → is ≡ true → Passes (ReceivesOnce is lane home) old new → Passes (OncePassed IsReceipt lane home) old new
goes_on lane home is old new holds = subst (λ b. Passes (ReceivesOnce b lane home) old new) holds

is_stopped : (lane : ℕ) (home : HomeEntry) (is : Bool) (old new : Option (List Event)) → is ≡ false → Passes (ReceivesOnce is lane home) old new → Passes (IsLeftUnheard home) old new
is_stopped lane home is old new fails = subst (λ b. Passes (ReceivesOnce b lane home) old new) fails

most_left : (lane : ℕ) (home : HomeEntry) (turn : ℕ) (old mid new : Option (List Event)) → Passes (AreAtMost turn turn) old mid → Passes (IsLeftUnheard home) mid new → Passes (AreAtMost (turn + 1) turn) old new
most_left lane home turn old mid new before left =
    most_join turn turn 1 0 (turn + 1) turn (omega arith) (omega arith) old mid new before (leaves_once lane home mid new left)

-- a receipt is of the next turn
most_received : (lane : ℕ) (home : HomeEntry) (turn : ℕ) (old mid new : Option (List Event)) → Passes (AreAtMost turn turn) old mid → Passes (OncePassed IsReceipt lane home) mid new → Passes (AreAtMost (turn + 1) turn) old new
most_received lane home turn old mid new before hears =
    most_join turn turn 1 0 (turn + 1) turn (omega arith) (omega arith) old mid new before (receives_once lane home mid new hears)

-- and so is a step
most_stepped : (lane : ℕ) (home : HomeEntry) (turn : ℕ) (old mid new : Option (List Event)) → Passes (AreAtMost (turn + 1) turn) old mid → Passes (OncePassed IsStep lane home) mid new → Passes (AreAtMost (turn + 1) (turn + 1)) old new
most_stepped lane home turn old mid new before steps =
    most_join (turn + 1) turn 0 1 (turn + 1) (turn + 1) (omega arith) (omega arith) old mid new before (sends_once lane home mid new steps)

pub loop-turn-init : goal.loop-turn-init
loop-turn-init g c = record {
  works = passes_none _ _ _ (works_none _ _) (ap g.W.Wire.log c.new-shift.ensures.log);
  made = passes_none _ _ _ (most_none _ _) (ap g.W.Wire.log c.new-shift.ensures.log);
  turns = c.new-shift.ensures.turns;
  wire = refl;
  proxy = c.new-shift.ensures.proxy;
}

pub loop-turn-preserved : goal.loop-turn-preserved
loop-turn-preserved g c = record {
  works =
      works_join _ _ _ _ _ (works_join _ _ _ _ _ c.loop-turn.invariant.works (works_by_part _ _ IsReceipt _ _ (goes_on _ _ _ _ _ c.if-not-hear.false c.hear.ensures.hears)))
      (works_by_part _ _ IsStep _ _ c.step.ensures.steps);
  made = most_stepped c.args.lane c.args.home.now _ _ _ _ (most_received c.args.lane c.args.home.now _ _ _ _ c.loop-turn.invariant.made (goes_on _ _ _ _ _ c.if-not-hear.false c.hear.ensures.hears)) c.step.ensures.steps;
  turns = c.step.ensures.keeps.turns ∙ c.hear.ensures.keeps.turns;
  wire = c.step.ensures.keeps.wire ∙ c.hear.ensures.keeps.wire ∙ c.loop-turn.invariant.wire;
  proxy = c.step.ensures.keeps.proxy ∙ c.hear.ensures.keeps.proxy ∙ c.loop-turn.invariant.proxy;
}

pub returns-then-not-hear-clause-works : goal.returns-then-not-hear-clause-works
returns-then-not-hear-clause-works g c =
    passes_left g.W.Wire.log _ _ _ _
    (works_stopped _ _ _ _ _ c.loop-turn.invariant.works (is_stopped _ _ _ _ _ c.if-not-hear.true c.hear.ensures.hears)) (search rules)

pub returns-then-not-step-clause-works : goal.returns-then-not-step-clause-works
returns-then-not-step-clause-works g c =
    passes_left g.W.Wire.log _ _ _ _
    (works_whole _ _ _ _ (works_join _ _ _ _ _ (works_join _ _ _ _ _ c.loop-turn.invariant.works (works_by_part _ _ IsReceipt _ _ (goes_on _ _ _ _ _ c.if-not-hear.false c.hear.ensures.hears)))
    (works_by_part _ _ IsStep _ _ c.step.ensures.steps))) (search rules)

pub returns-clause-works : goal.returns-clause-works
returns-clause-works g c = passes_left g.W.Wire.log _ _ _ _ (works_whole _ _ _ _ c.loop-turn.invariant.works) (search rules)

pub returns-then-not-hear-clause-made : goal.returns-then-not-hear-clause-made
returns-then-not-hear-clause-made g c =
    let turn = c.loop-turn.turn in
    passes_left g.W.Wire.log _ _ _ _
    (subst_turns (sym c.hear.ensures.keeps.turns) (most_more (turn + 1) turn (turn + 1) (turn + 1) (omega arith) (omega arith) _ _
    (most_left c.args.lane c.args.home.now turn _ _ _ c.loop-turn.invariant.made (is_stopped _ _ _ _ _ c.if-not-hear.true c.hear.ensures.hears)))) (search rules)

pub returns-then-not-step-clause-made : goal.returns-then-not-step-clause-made
returns-then-not-step-clause-made g c =
    passes_left g.W.Wire.log _ _ _ _
    (subst_turns (sym (c.step.ensures.keeps.turns ∙ c.hear.ensures.keeps.turns))
    (most_stepped c.args.lane c.args.home.now _ _ _ _ (most_received c.args.lane c.args.home.now _ _ _ _ c.loop-turn.invariant.made (goes_on _ _ _ _ _ c.if-not-hear.false c.hear.ensures.hears)) c.step.ensures.steps)) (search rules)

pub returns-clause-made : goal.returns-clause-made
returns-clause-made g c =
    passes_left g.W.Wire.log _ _ _ _ (subst_turns (sym c.loop-turn.invariant.turns) c.loop-turn.invariant.made) (search rules)
