-- A segment's file: its batches, and a closed gate. Own. Numbers are big-endian.
use Rattle.std.specs.Prelude.{◌≡◌, ℕ, ◌<◌, ◌^◌, ◌⊎◌, List, [], ◌∷◌, ◌++◌, length, map}
use Rattle.std.specs.Borrow.{Bor}
use Rattle.std.specs.List.{flat_map, AllByRecursion}
use Rattle.std.specs.Int.{w32, to_be_bytes}
use Rattle.spool_files.specs.CheckSums.{crc32}

-- a batch: the CRC-32 that stands beside it, and its body
abbrev pub Batch : Type 0
Batch = ℕ × List ℕ

-- the batch of a body, as it is written
abbrev pub sealed : List ℕ → Batch
sealed body = (crc32 body, body)

-- batches without where their bodies lie
abbrev pub batch_views : List (ℕ × Bor (List ℕ)) → List Batch
batch_views batches = map (λ b. (b.0, b.1.now)) batches

-- what stands behind the gate of a batch: the length of its body, its CRC-32 and its body
abbrev pub frame_octets : Batch → List ℕ
frame_octets b = to_be_bytes w32 (length b.1) ++ (to_be_bytes w32 b.0 ++ b.1)

-- a batch behind its open gate
abbrev pub batch_octets : Batch → List ℕ
batch_octets b = 1 ∷ frame_octets b

abbrev pub octets_of_batches : List Batch → List ℕ
octets_of_batches batches = flat_map batch_octets batches

-- batches, and a closed gate behind them
abbrev pub at_rest : List Batch → List ℕ
at_rest batches = octets_of_batches batches ++ 0 ∷ []

-- the numbers of a batch have room in its fields
abbrev pub FitsBatch : Batch → Type 0
FitsBatch b = (length b.1 < 2 ^ 32) × (b.0 < 2 ^ 32)

abbrev pub AreBatches : List Batch → Type 0
AreBatches batches = AllByRecursion FitsBatch batches

-- no whole batch with an open gate begins here
abbrev pub NoBatch : List ℕ → Type 0
NoBatch rest = (batch : Batch) (more : List ℕ) → FitsBatch batch → rest ≡ batch_octets batch ++ more → ⊥

-- The file has these batches: they stand at its front, each whole and behind an open gate, and no other behind them. What
-- stands behind a gate that is not open counts for nothing, whatever it is.
pub record Has (file : List ℕ) (batches : List Batch) : Type 0 where
  pub rest : List ℕ
  pub split : file ≡ octets_of_batches batches ++ rest
  pub fit : AreBatches batches
  pub ends : NoBatch rest

-- the file has these batches, or these and one more
abbrev pub IsBeforeOrAfter : List Batch → Batch → List ℕ → Type 0
IsBeforeOrAfter batches batch file = Has file batches ⊎ Has file (batches ++ batch ∷ [])

-- a file has one list of batches at most
abbrev pub HasOneList : Type 0
HasOneList = (file : List ℕ) (one other : List Batch) → Has file one → Has file other → one ≡ other
