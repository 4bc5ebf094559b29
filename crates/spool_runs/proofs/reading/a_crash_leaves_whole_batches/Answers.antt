use Rattle.spool_runs.proofs.Read.{whole_batches}
use Rattle.spool_runs.proofs.reading.a_crash_leaves_whole_batches.Goals as goal

pub returns : goal.returns
returns c = whole_batches
