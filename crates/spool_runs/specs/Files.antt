-- What is read from a segment that a crash may have left, and what a start makes of it (own).
use Rattle.std.specs.Prelude.{◌≡◌, ◌⊎◌, ℕ, ⊤, List, [], ◌∷◌, ◌++◌, reverse}
use Rattle.spool_files.specs.declared.counting.Counted.{Counted}
use Rattle.spool_files.specs.declared.counting.OpenRequest.{OpenRequest}
use Rattle.spool_files.specs.Batches.{Batch, Has, IsBeforeOrAfter}
use Rattle.spool_files.specs.Entries.{Entry, Spells}
use Rattle.spool_files.specs.Counting.{AreByArrival, Counts, answer_entries, answers_of, request_entries}
use Rattle.spool_runs.specs.Happens.{IsOffered}

-- the batches have these entries, each batch its own
abbrev pub HaveEntries : List Batch → List (List Entry) → Type 0
HaveEntries [] [] = ⊤
HaveEntries [] (entries ∷ more) = ⊥
HaveEntries (batch ∷ batches) [] = ⊥
HaveEntries (batch ∷ batches) (entries ∷ more) = Spells batch.1 entries × HaveEntries batches more

-- the segment's file reads as these entries, by batches
pub record ReadsAsEntries (file : List ℕ) (entries : List (List Entry)) : Type 0 where
  pub batches : List Batch
  pub has : Has file batches
  pub are : HaveEntries batches entries

-- Whatever a crash leaves of a segment while a batch is appended reads as the entries of the batches before it, with those of
-- this batch, all of them, or with none of them.
abbrev pub ACrashLeavesWholeBatches : Type 0
ACrashLeavesWholeBatches =
    (batches : List Batch) (batch : Batch) (entries : List (List Entry)) (more : List Entry) (file : List ℕ) (read : List (List Entry))
    → HaveEntries batches entries
    → Spells batch.1 more
    → IsBeforeOrAfter batches batch file
    → ReadsAsEntries file read
    → (read ≡ entries) ⊎ (read ≡ entries ++ more ∷ [])

-- What was counted of the entries on disk, and sorted, is what a start offers and remembers.
pub record StartsWith (now span : ℕ) (disk : List Entry) (counted : Counted) (sorted : List OpenRequest) : Type 0 where
  pub offers : IsOffered disk (request_entries sorted)
  pub remembers : reverse (answer_entries counted.answers.items) ≡ answers_of now span disk

abbrev pub AStartCounts : Type 0
AStartCounts =
    (now span : ℕ) (disk : List Entry) (counted : Counted) (sorted : List OpenRequest)
    → Counts now span counted disk []
    → AreByArrival counted.requests.items sorted
    → StartsWith now span disk counted sorted
