use Rattle.std.proofs.Common.{◌≡◌}
use Rattle.rad_desk.specs.Calls.{Passes, AreAtMost}
use Rattle.rad_desk.specs.Working.{WorksOn}
use Rattle.rad_desk.proofs.lanes.lane_worker.Given as goal

abbrev pub invariant-loop-turn : goal.invariant-loop-turn
invariant-loop-turn g l = record {
  works : Passes (WorksOn l.lane l.home) (g.W.Wire.log l.fn.wire) (g.W.Wire.log l.shift.wire.now);
  made : Passes (AreAtMost l.turn l.turn) (g.W.Wire.log l.fn.wire) (g.W.Wire.log l.shift.wire.now);
  turns : l.shift.tally.turns ≡ l.turn;
  wire : l.shift.wire.ghost_name ≡ l.initial.shift.wire.ghost_name;
  proxy : l.shift.proxy.now ≡ l.proxy;
}
