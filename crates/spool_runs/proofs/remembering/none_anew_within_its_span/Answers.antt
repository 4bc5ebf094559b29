use Rattle.spool_runs.proofs.Recalled.{none_anew}
use Rattle.spool_runs.proofs.remembering.none_anew_within_its_span.Goals as goal

pub returns : goal.returns
returns c = none_anew
