use Rattle.spool_runs.proofs.Crashes.{comes_again, comes_not_again}
use Rattle.spool_runs.proofs.crashing.there_are_crashes.Goals as goal

pub returns-clause-again : goal.returns-clause-again
returns-clause-again c = comes_again

pub returns-clause-not_again : goal.returns-clause-not_again
returns-clause-not_again c = comes_not_again
