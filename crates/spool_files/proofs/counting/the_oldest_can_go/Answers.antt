use Rattle.spool_files.proofs.CountLemmas.{oldest_is_past, past_can_go}
use Rattle.spool_files.proofs.counting.the_oldest_can_go.Goals as goal

pub returns-clause-past : goal.returns-clause-past
returns-clause-past c = oldest_is_past

pub returns-clause-goes : goal.returns-clause-goes
returns-clause-goes c = past_can_go
