use Rattle.std.proofs.Common.{arith}
use Rattle.rad_server.specs.internal.Taken.{taken}
use Rattle.rad_server.proofs.SocketLists.{these_on}
use Rattle.rad_server.proofs.wires.polling.PolledSockets.hand_over.Goals as goal

pub invariant_of-self : goal.invariant_of-self
invariant_of-self g c = record {
  accounted = c.hand_over.ensures.accounted (taken c.args.self.now.sent.passed) c.args.self.now.accounted;
  took =
      these_on c.args.self.now.sockets.items c.as_mut_slice.result.now c.hand_over.new.sockets (taken c.args.self.now.departures.account.gone.passed) (taken c.hand_over.new.self.account.gone.passed)
      c.args.self.now.sockets.len c.as_mut_slice.ensures.value (omega (arith, c.hand_over.auto.sockets, c.as_mut_slice.ensures.len)) c.hand_over.ensures.taken c.args.self.now.took;
}
