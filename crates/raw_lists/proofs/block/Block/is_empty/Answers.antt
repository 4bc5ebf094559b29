use Rattle.raw_lists.proofs.Blocks.{some_at_first, none_at_first}
use Rattle.raw_lists.proofs.block.Block.is_empty.Goals as goal

pub returns-in-Some : goal.returns-in-Some
returns-in-Some g c = some_at_first c.args.self.now.items _ c.in-Some.ensures

pub returns-in-None : goal.returns-in-None
returns-in-None g c = none_at_first c.args.self.now.items c.in-None.ensures
