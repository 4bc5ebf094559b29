use Rattle.std.proofs.Common.{◌≡◌, length}
use Rattle.spool_files.specs.internal.Registers.{joined_after}
use Rattle.spool_files.proofs.check_sum.joined_of.Given as goal

abbrev pub invariant-loop-others : goal.invariant-loop-others
invariant-loop-others l = joined_after l.register l.others l.rest ≡ joined_after 0 l.registers l.octets

abbrev pub decreases-loop-others : goal.decreases-loop-others
decreases-loop-others l = length l.others
