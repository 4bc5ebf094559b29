use Rattle.std.proofs.Common.{ap}
use Rattle.rad_server.proofs.SocketLists.{same_at}
use Rattle.rad_server.proofs.sockets.ready_socket.set_waiting_at.Goals as goal

pub returns-then-place-sockets : goal.returns-then-place-sockets
returns-then-place-sockets g c =
    same_at g.S.DatagramSocket.took c.args.sockets.now _ _ c.index-sockets-place.result
    c.if-place-sockets.true (ap g.S.DatagramSocket.took c.set_waiting.ensures)
