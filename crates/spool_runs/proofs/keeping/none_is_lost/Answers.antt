use Rattle.spool_runs.proofs.Kept.{none_lost}
use Rattle.spool_runs.proofs.keeping.none_is_lost.Goals as goal

pub returns : goal.returns
returns c = none_lost
