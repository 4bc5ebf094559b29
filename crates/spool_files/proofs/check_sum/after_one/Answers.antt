use Rattle.spool_files.proofs.CheckSumLemmas.{by_one}
use Rattle.spool_files.proofs.check_sum.after_one.Goals as goal

pub returns : goal.returns
returns c = by_one c.args.register
