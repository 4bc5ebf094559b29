use Rattle.std.proofs.Common.{◌∙◌}
use Rattle.raw_lists.proofs.Ends.{ends_room}
use Rattle.raw_lists.proofs.linked_blocks.LinkedBlocks.room.Goals as goal

pub returns : goal.returns
returns g c = c.room.ensures.room ∙ ends_room c.args.self.now c.last.result.now c.last.ensures
