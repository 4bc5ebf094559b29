use Rattle.spool_runs.proofs.Started.{offers_once}
use Rattle.spool_runs.proofs.offering.offered_once.Goals as goal

pub returns : goal.returns
returns c = offers_once
