use Rattle.spool_files.proofs.CountLemmas.{written_once_more}
use Rattle.spool_files.proofs.counting.what_is_written_once_more.Goals as goal

pub returns : goal.returns
returns c = written_once_more
