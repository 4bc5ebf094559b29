use Rattle.std.proofs.Common.{arith}
use Rattle.spool_files.proofs.CheckSumLemmas.{by_four}
use Rattle.spool_files.proofs.check_sum.after_24.Goals as goal

pub returns : goal.returns
returns c = by_four c.args.register (omega (arith, c.ranges))
