use Rattle.std.proofs.Common.{sym, subst}
use Rattle.rad_server.specs.internal.Taken.{TookThese, taken}
use Rattle.rad_server.proofs.wires.polling.PolledSockets.set_moment.Goals as goal

pub invariant_of-self : goal.invariant_of-self
invariant_of-self g c = record {
  accounted = c.set_moment.ensures.accounted (taken c.args.self.now.sent.passed) c.args.self.now.accounted;
  took = subst (λ t. TookThese c.args.self.now.sockets.items (taken t.passed)) (sym c.set_moment.ensures.gone) c.args.self.now.took;
}
