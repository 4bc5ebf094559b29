use Rattle.std.proofs.Common.{◌≡◌, ◌+◌, ◌*◌, length}
use Rattle.rad_desk.specs.Calls.{Passes, AreAtMost}
use Rattle.rad_desk.specs.Once.{terms_of}
use Rattle.rad_desk.specs.HandOver.{HandsOver}
use Rattle.rad_desk.proofs.front.front_worker_with.Given as goal

abbrev pub invariant-loop-turn : goal.invariant-loop-turn
invariant-loop-turn g l = record {
  hands_over : Passes (HandsOver (terms_of l.config (g.M.Memory.remembered l.memory)) l.initial.inlets l.inlets (g.E.Entrance.outcomes l.initial.entrance) (g.E.Entrance.outcomes l.entrance) (g.W.Wire.log l.fn.wire) (g.L.Ledger.kept l.initial.ledger) (g.L.Ledger.kept l.ledger)) (g.W.Wire.log l.fn.wire) (g.W.Wire.log l.shift.wire.now);
  made : Passes (AreAtMost l.turn (l.turn * (1 + length l.initial.inlets))) (g.W.Wire.log l.fn.wire) (g.W.Wire.log l.shift.wire.now);
  turns : l.shift.tally.turns ≡ l.turn;
  wire : l.shift.wire.ghost_name ≡ l.initial.shift.wire.ghost_name;
}
