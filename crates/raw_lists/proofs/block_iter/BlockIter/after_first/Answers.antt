use Rattle.raw_lists.proofs.Ends.{after_taken}
use Rattle.raw_lists.proofs.block_iter.BlockIter.after_first.Goals as goal

pub returns : goal.returns
returns g c = after_taken c.args.self c.next.new.self c.next.result c.next.ensures
