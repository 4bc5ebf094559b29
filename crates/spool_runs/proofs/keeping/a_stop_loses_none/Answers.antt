use Rattle.spool_runs.proofs.Written.{stop_loses_none}
use Rattle.spool_runs.proofs.keeping.a_stop_loses_none.Goals as goal

pub returns : goal.returns
returns c = stop_loses_none
