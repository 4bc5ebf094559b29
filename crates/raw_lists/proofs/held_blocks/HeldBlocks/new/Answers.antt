use Rattle.raw_lists.proofs.Ends.{held_new}
use Rattle.raw_lists.proofs.held_blocks.HeldBlocks.new.Goals as goal

pub invariant_of-result : goal.invariant_of-result
invariant_of-result g c = held_new c.one.result c.cleared-first.result.block c.one.ensures c.cleared-first.ensures
