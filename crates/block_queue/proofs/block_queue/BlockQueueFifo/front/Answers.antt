use Rattle.std.proofs.Common.{◌∙◌, ap}
use Rattle.raw_lists.specs.Queue.{oldest}
use Rattle.raw_lists.specs.Blocks.{linked_of}
use Rattle.raw_lists.proofs.Ends.{no_oldest}
use Rattle.block_queue.proofs.block_queue.BlockQueueFifo.front.Goals as goal

pub returns-in-None : goal.returns-in-None
returns-in-None g c = no_oldest (linked_of c.self.inside.blocks) (ap linked_of c.in-None.is) ∙ ap (λ v. oldest v.items) c.self.view_is
