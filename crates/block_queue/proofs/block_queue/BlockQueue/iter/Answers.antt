use Rattle.std.specs.Map.Iter.{deref}
use Rattle.std_collections.proofs.IterRuns.{shows_in_order}
use Rattle.raw_lists.proofs.Blocks.{none_chained}
use Rattle.block_queue.proofs.block_queue.BlockQueue.iter.Goals as goal

pub new-requires-in-None : goal.new-requires-in-None
new-requires-in-None g c = none_chained c.none.result c.none.ensures

pub returns-in-Some-clause-runs : goal.returns-in-Some-clause-runs
returns-in-Some-clause-runs g c = shows_in_order deref

pub returns-in-None-clause-runs : goal.returns-in-None-clause-runs
returns-in-None-clause-runs g c = shows_in_order deref
