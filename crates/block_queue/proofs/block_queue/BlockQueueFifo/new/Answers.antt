use Rattle.std.proofs.Common.{[], refl}
use Rattle.raw_lists.proofs.Blocks.{queue_new}
use Rattle.block_queue.proofs.block_queue.BlockQueueFifo.new.Goals as goal

pub invariant_of-result : goal.invariant_of-result
invariant_of-result g c = (queue_new [] refl).0

pub returns : goal.returns
returns g c = (queue_new [] refl).1
