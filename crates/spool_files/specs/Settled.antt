-- A segment on a file whose calls are logged. Own.
use Rattle.std.specs.Prelude.{List}
use Rattle.spool_files.specs.Batches.{Batch}
use Rattle.spool_files.specs.Calls.{octets_after, MayLeave}
use Rattle.spool_files.specs.Segments.{IsSettled}
use Rattle.spool_files.specs.declared.logged_file.LoggedFile.{LoggedFile}
use Rattle.spool_files.specs.declared.segment.Segment.{Segment}

-- the segment has some batches, which each crash leaves
abbrev pub IsSettledFile : {C : Type 0} → Segment (LoggedFile C) → Type 0
IsSettledFile segment = (batches : List Batch) × IsSettled (λ f. octets_after f.log.calls) (λ f. MayLeave f.log.calls) segment batches
