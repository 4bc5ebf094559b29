use Rattle.spool_runs.proofs.Recalled.{recalled}
use Rattle.spool_runs.proofs.remembering.the_same_answer.Goals as goal

pub returns : goal.returns
returns c = recalled
