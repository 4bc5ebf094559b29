use Rattle.std.proofs.Common.{◌≡◌, ◌++◌, length}
use Rattle.spool_files.specs.Batches.{AreBatches, octets_of_batches, batch_views}
use Rattle.spool_files.proofs.batches.read_batches.Given as goal

abbrev pub invariant-loop-check : goal.invariant-loop-check
invariant-loop-check l = record { fit : AreBatches (batch_views l.batches.items); read : octets_of_batches (batch_views l.batches.items) ++ l.rest ≡ l.file }

abbrev pub decreases-loop-check : goal.decreases-loop-check
decreases-loop-check l = length l.rest
