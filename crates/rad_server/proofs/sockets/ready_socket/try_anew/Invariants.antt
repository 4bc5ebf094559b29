use Rattle.std.proofs.Common.{◌≡◌, ℕ}
use Rattle.rad_server.specs.internal.Taken.{took_at}
use Rattle.rad_server.proofs.sockets.ready_socket.try_anew.Given as goal

-- No socket took anything.
abbrev pub invariant-loop-socket : goal.invariant-loop-socket
invariant-loop-socket g l = (place : ℕ) → took_at g.S.DatagramSocket.took l.socket-items place ≡ took_at g.S.DatagramSocket.took l.initial.socket-items place
