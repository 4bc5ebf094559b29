use Rattle.std.proofs.Common.{◌∙◌, ap}
use Rattle.raw_lists.specs.Blocks.{linked_of}
use Rattle.raw_lists.proofs.Ends.{no_room}
use Rattle.block_queue.proofs.block_queue.BlockQueueFifo.spare.Goals as goal

pub returns-in-None : goal.returns-in-None
returns-in-None g c = no_room (linked_of c.self.inside.blocks) (ap linked_of c.in-None.is) ∙ ap (λ v. v.room) c.self.view_is
