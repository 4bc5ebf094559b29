use Rattle.rad_server.proofs.SocketLists.{sent_at}
use Rattle.rad_server.proofs.sockets.ready_socket.send_from.Goals as goal

pub returns : goal.returns
returns g c =
    sent_at g.S.DatagramSocket.took c.args.sent.to c.args.sent.octets.now c.send.result c.args.sockets.now _ _ _ c.index-sockets-place.result
    c.if-place-sockets.false c.from-place.ensures c.send.ensures
