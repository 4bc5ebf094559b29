use Rattle.std.proofs.Common.{◌≡◌}
use Rattle.rad_server.proofs.wires.polling.PolledSockets.try_each.Given as goal

abbrev pub invariant-loop : goal.invariant-loop
invariant-loop g l = l.self.sent ≡ l.fn.self.sent
