use Rattle.std.proofs.Common.{arith}
use Rattle.rad_server.specs.internal.Taken.{taken}
use Rattle.rad_server.proofs.SocketLists.{these_same}
use Rattle.rad_server.proofs.wires.polling.PolledSockets.try_next.Goals as goal

pub invariant_of-self : goal.invariant_of-self
invariant_of-self g c = record {
  accounted = c.args.self.now.accounted;
  took = these_same c.args.self.now.sockets.items c.as_mut_slice.result.now c.receive_from-received.new.sockets (taken c.args.self.now.departures.account.gone.passed) c.args.self.now.sockets.len c.as_mut_slice.ensures.value (omega (arith, c.receive_from-received.auto.sockets, c.as_mut_slice.ensures.len)) c.receive_from-received.ensures.took c.args.self.now.took;
}
