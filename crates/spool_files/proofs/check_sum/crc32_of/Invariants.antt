use Rattle.std.proofs.Common.{◌≡◌, length}
use Rattle.spool_files.specs.CheckSums.{register_after}
use Rattle.spool_files.specs.internal.Registers.{joined_after}
use Rattle.spool_files.proofs.check_sum.crc32_of.Given as goal

abbrev pub invariant-loop-rest : goal.invariant-loop-rest
invariant-loop-rest l = joined_after 0 l.registers l.rest ≡ register_after 0xffffffff l.octets

abbrev pub decreases-loop-rest : goal.decreases-loop-rest
decreases-loop-rest l = length l.rest
