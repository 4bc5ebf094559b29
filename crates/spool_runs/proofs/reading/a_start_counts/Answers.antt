use Rattle.spool_runs.proofs.Read.{start_counts}
use Rattle.spool_runs.proofs.reading.a_start_counts.Goals as goal

pub returns : goal.returns
returns c = start_counts
