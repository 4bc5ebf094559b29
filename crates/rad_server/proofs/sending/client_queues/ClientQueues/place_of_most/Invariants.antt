use Rattle.std.proofs.Common.{◌≤◌, length, take}
use Rattle.std.specs.Prelude.{All}
use Rattle.rad_server.specs.internal.Keeping.{len_at}
use Rattle.rad_server.proofs.sending.client_queues.ClientQueues.place_of_most.Given as goal

-- No queue so far is longer.
abbrev pub invariant-loop-place : goal.invariant-loop-place
invariant-loop-place l = All (λ queue. length queue.datagrams.items ≤ len_at l.fn.self.list.items l.most) (take l.place l.fn.self.list.items)
