-- A segment to which the thread appends. Own.
use Rattle.std.specs.Prelude.{List}
use Rattle.spool_files.specs.Batches.{Batch}
use Rattle.spool_files.specs.Calls.{octets_after, MayLeave}
use Rattle.spool_files.specs.Segments.{IsSettled}
use Rattle.spool_files.specs.declared.logged_file.LoggedFile.{LoggedFile}
use Rattle.spool_files.specs.declared.segment.Segment.{Segment}

-- the segment has these batches, which each crash leaves
abbrev pub Has : {C : Type 0} → Segment (LoggedFile C) → List Batch → Type 0
Has segment batches = IsSettled (λ f. octets_after f.log.calls) (λ f. MayLeave f.log.calls) segment batches
