use Rattle.std.proofs.Common.{sym}
use Rattle.spool_files.proofs.BatchLemmas.{behind_closed, behind_open}
use Rattle.spool_files.proofs.batches.batch_of.Goals as goal

pub returns-then-is_open : goal.returns-then-is_open
returns-then-is_open c = behind_open _ _ _ _ (sym c.in_ok-gate.ensures) c.if-is_open.true c.frame_of.ensures

pub returns-else-is_open : goal.returns-else-is_open
returns-else-is_open c = behind_closed _ _ _ (sym c.in_ok-gate.ensures) c.if-is_open.false
