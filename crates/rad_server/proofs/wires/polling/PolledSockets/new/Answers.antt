use Rattle.std.proofs.Common.{sym, subst}
use Rattle.rad_server.specs.internal.Accounts.{IsAccounted}
use Rattle.rad_server.specs.internal.Taken.{TookThese, taken}
use Rattle.rad_server.proofs.SocketLists.{these_new}
use Rattle.rad_server.proofs.wires.polling.PolledSockets.new.Goals as goal

pub invariant_of-polled : goal.invariant_of-polled
invariant_of-polled g c = record {
  accounted = subst (λ l. IsAccounted (taken l) c.new-departures.result) (sym c.new-sent.ensures) c.new-departures.ensures.accounted;
  took = subst (λ l. TookThese c.in_ok-sockets.sockets.items (taken l)) (sym c.new-departures.ensures.gone) (these_new c.in_ok-sockets.sockets.items c.in_ok-sockets.ensures);
}
