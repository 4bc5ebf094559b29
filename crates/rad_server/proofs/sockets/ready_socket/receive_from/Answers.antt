use Rattle.std.proofs.Common.{Some, ap}
use Rattle.rad_server.specs.internal.Taken.{list_of, listed_in}
use Rattle.rad_server.proofs.SocketLists.{same_at}
use Rattle.rad_server.proofs.sockets.ready_socket.receive_from.Goals as goal

pub returns-clause-took : goal.returns-clause-took
returns-clause-took c =
    same_at list_of c.args.sockets.now _ _ c.index-sockets-place.result
    c.if-place-sockets.false (ap (λ t. Some (listed_in t.passed)) c.receive.ensures.took)
