use Rattle.std.specs.Prelude.{List}
use Rattle.rad_desk.specs.Handling.{Outcome}
use Rattle.rad_desk.specs.Calls.{Passes, AreAtMost}
use Rattle.rad_desk.specs.Once.{Terms}
use Rattle.rad_desk.specs.HandOver.{HandsOver}
use Rattle.rad_desk.specs.Keeping.{Keeps}
use Rattle.rad_desk.proofs.front.hand_out.Given as goal

abbrev pub invariant-loop-place : goal.invariant-loop-place
invariant-loop-place g l = record {
  hands_over : (terms : Terms) (came : List Outcome) → Passes (HandsOver terms l.initial.inlets l.inlets came came (g.W.Wire.log l.initial.shift.wire.now) (g.L.Ledger.kept l.initial.ledger) (g.L.Ledger.kept l.ledger)) (g.W.Wire.log l.initial.shift.wire.now) (g.W.Wire.log l.shift.wire.now);
  sends : Passes (AreAtMost 0 l.place) (g.W.Wire.log l.initial.shift.wire.now) (g.W.Wire.log l.shift.wire.now);
  keeps : Keeps l.initial.shift l.shift;
}
