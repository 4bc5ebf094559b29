use Rattle.std.proofs.Common.{◌≡◌, length}
use Rattle.spool_files.specs.CheckSums.{register_after}
use Rattle.spool_files.proofs.check_sum.register_of.Given as goal

abbrev pub invariant-loop-rest : goal.invariant-loop-rest
invariant-loop-rest l = register_after l.register l.rest ≡ register_after l.start l.octets

abbrev pub decreases-loop-rest : goal.decreases-loop-rest
decreases-loop-rest l = length l.rest
