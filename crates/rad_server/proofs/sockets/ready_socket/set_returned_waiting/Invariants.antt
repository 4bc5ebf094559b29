use Rattle.rad_server.specs.internal.Taken.{SameTook}
use Rattle.rad_server.proofs.sockets.ready_socket.set_returned_waiting.Given as goal

-- No socket took anything.
abbrev pub invariant-loop-event : goal.invariant-loop-event
invariant-loop-event g l = SameTook g.S.DatagramSocket.took l.fn.sockets l.sockets
