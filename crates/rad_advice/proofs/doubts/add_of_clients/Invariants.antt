use Rattle.std.proofs.Common.{◌≡◌, ◌++◌, drop}
use Rattle.rad_advice.specs.Doubts.{each_doubt, client_doubts}
use Rattle.rad_advice.proofs.doubts.add_of_clients.Given as goal

abbrev pub invariant-loop-client : goal.invariant-loop-client
invariant-loop-client l =
    (l.index ≡ l.client-index)
    × (l.doubts.items ++ each_doubt client_doubts l.client-index (drop l.client-index l.clients) ≡ l.fn.doubts.items ++ each_doubt client_doubts 0 l.clients)
