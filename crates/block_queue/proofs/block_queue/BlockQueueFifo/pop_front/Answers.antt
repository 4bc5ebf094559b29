use Rattle.std.proofs.Common.{◌≡◌, ap, arith}
use Rattle.raw_lists.specs.Blocks.{linked_of}
use Rattle.raw_lists.proofs.Blocks.{queue_none}
use Rattle.block_queue.proofs.block_queue.BlockQueueFifo.pop_front.Goals as goal

pub unreachable-requires : goal.unreachable-requires
unreachable-requires g c =
    let q = c.self.inside in let none : q.count ≡ 0 = queue_none q.count (linked_of q.blocks) c.self.invariant (ap linked_of c.in-None.is) in omega arith
