use Rattle.std.proofs.Common.{List}
use Rattle.spool_files.specs.Batches.{Batch}
use Rattle.spool_files.specs.Calls.{octets_after, MayLeave}
use Rattle.spool_files.specs.Segments.{IsSettled}
use Rattle.library_tests.proofs.spool.append_each.Given as goal

abbrev pub invariant-loop-body : goal.invariant-loop-body
invariant-loop-body l = (batches : List Batch) × IsSettled (λ f. octets_after f.log.calls) (λ f. MayLeave f.log.calls) l.segment batches
