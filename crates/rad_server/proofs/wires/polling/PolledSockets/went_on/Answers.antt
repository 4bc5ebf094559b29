use Rattle.std.proofs.Common.{arith}
use Rattle.rad_server.specs.internal.Taken.{taken}
use Rattle.rad_server.proofs.SocketLists.{these_on}
use Rattle.rad_server.proofs.wires.polling.PolledSockets.went_on.Goals as goal

pub invariant_of-self : goal.invariant_of-self
invariant_of-self g c = record {
  accounted = c.count_receive.ensures.accounted (taken c.args.self.now.sent.passed) c.args.self.now.accounted;
  took =
      these_on c.args.self.now.sockets.items c.as_mut_slice.result.now c.count_receive.new.sockets (taken c.args.self.now.departures.account.gone.passed) (taken c.count_receive.new.self.account.gone.passed)
      c.args.self.now.sockets.len c.as_mut_slice.ensures.value (omega (arith, c.count_receive.auto.sockets, c.as_mut_slice.ensures.len)) c.count_receive.ensures.taken c.args.self.now.took;
}
