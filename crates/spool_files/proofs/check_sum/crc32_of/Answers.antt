use Rattle.spool_files.proofs.CheckSumLemmas.{one_alone}
use Rattle.spool_files.proofs.check_sum.crc32_of.Goals as goal

pub loop-rest-init : goal.loop-rest-init
loop-rest-init c = one_alone 0xffffffff c.args.octets.now
