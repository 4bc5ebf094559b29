use Rattle.std.proofs.Common.{ap, ◌∙◌, arith}
use Rattle.rad_server.proofs.SocketLists.{same_at}
use Rattle.rad_server.proofs.sockets.ready_socket.set_each_waiting.Goals as goal

pub loop-socket-preserved : goal.loop-socket-preserved
loop-socket-preserved g c = λ place.
    same_at g.S.DatagramSocket.took c.loop-socket.socket-items c.loop-socket.socket-index _ c.socket-item.result (omega (arith, c.loop-socket.auto.socket-items, c.loop-socket-test.true)) (ap g.S.DatagramSocket.took c.set_waiting.ensures) place
    ∙ c.loop-socket.invariant place

pub returns : goal.returns
returns g c = c.loop-socket.invariant
