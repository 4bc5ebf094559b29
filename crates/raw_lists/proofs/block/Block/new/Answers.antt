use Rattle.std.proofs.Common.{refl}
use Rattle.raw_lists.proofs.Places.{block_new, queue_is}
use Rattle.raw_lists.proofs.block.Block.new.Goals as goal

pub invariant_of-result : goal.invariant_of-result
invariant_of-result g c = (block_new c.in_ok-new.field-0.places c.in_ok-new.ensures.0).0

pub returns : goal.returns
returns g c = queue_is (block_new c.in_ok-new.field-0.places c.in_ok-new.ensures.0).1 refl
