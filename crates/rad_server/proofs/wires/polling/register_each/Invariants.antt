use Rattle.std.proofs.Common.{◌≡◌, [], Some}
use Rattle.std.specs.Prelude.{All}
use Rattle.rad_server.specs.internal.Taken.{list_of}
use Rattle.rad_server.proofs.wires.polling.register_each.Given as goal

-- The sockets so far took nothing.
abbrev pub invariant-loop-socket : goal.invariant-loop-socket
invariant-loop-socket l = All (λ socket. list_of socket.socket ≡ Some []) l.registered.items
