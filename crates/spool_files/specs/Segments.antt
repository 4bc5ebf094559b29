-- A segment that a run writes. Own.
use Rattle.std.specs.Prelude.{◌≡◌, ℕ, List, length}
use Rattle.spool_files.specs.Devices.{Only}
use Rattle.spool_files.specs.Batches.{Batch, AreBatches, octets_of_batches, at_rest}
use Rattle.spool_files.specs.declared.segment.Segment.{Segment}

-- the segment's file has these batches and a closed gate, and each crash leaves it so
pub record IsSettled {D : Type 0} (seen : D → List ℕ) (may_leave : D → List ℕ → Type 0) (segment : Segment D) (batches : List Batch) : Type 0 where
  pub fit : AreBatches batches
  pub file : seen segment.device ≡ at_rest batches
  pub end : segment.end ≡ length (octets_of_batches batches)
  pub durable : Only (seen segment.device) (may_leave segment.device)
