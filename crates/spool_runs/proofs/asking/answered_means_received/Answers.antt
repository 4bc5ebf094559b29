use Rattle.spool_runs.proofs.AfterOthers.{answered_received, life_is_run}
use Rattle.spool_runs.proofs.asking.answered_means_received.Goals as goal

pub returns-clause-received : goal.returns-clause-received
returns-clause-received c = answered_received

pub returns-clause-runs : goal.returns-clause-runs
returns-clause-runs c = life_is_run
