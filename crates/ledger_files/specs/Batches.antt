-- The lines of entries that are put together, and how far they are written.
use Rattle.std.specs.Prelude.{◌≡◌, ℕ, ◌+◌, ◌<◌, ◌≤◌, List, [], length, map, take, slice_index, slice_index_or}
use Rattle.std.specs.List.{concat}
use Rattle.sha2.specs.Sha256.{sha256}
use Rattle.ledger_files.specs.Tails.{bodies_in}
use Rattle.ledger_files.specs.declared.batch.Batch.{Batch}
use Rattle.ledger_files.specs.declared.batch.LineHead.{LineHead}

-- `all` is the octets of these lines, one behind the other, and `places` is where each of them ends.
pub record AreLines (all places : List ℕ) (lines : List (List ℕ)) : Type 0 where
  pub octets : all ≡ concat lines
  pub count : length places ≡ length lines
  pub ends : (k : ℕ) → k < length lines → slice_index places k ≡ length (concat (take (k + 1) lines))

-- The batch holds these lines, each with room for a tail, one behind the other, and `whole` of them are written whole. The next one begins
-- at `start`. The bodies of the first of them are digested.
pub record HoldsLines (batch : Batch) (lines : List (List ℕ)) : Type 0 where
  pub octets : batch.octets.items ≡ concat lines
  pub count : length batch.ends.items ≡ length lines
  pub ends : (k : ℕ) → k < length lines → slice_index batch.ends.items k ≡ length (concat (take (k + 1) lines))
  pub some : batch.whole ≤ length lines
  pub start : batch.start ≡ length (concat (take batch.whole lines))
  pub long : (k : ℕ) → k < length lines → 75 ≤ length (slice_index_or lines k [])
  pub digests : batch.digests.items ≡ take (length batch.digests.items) (map sha256 (bodies_in lines))

-- What the first line is of that is not written whole.
pub record IsHeadOf (batch : Batch) (head : LineHead) : Type 0 where
  pub some : batch.whole < length batch.heads.items
  pub same : head ≡ slice_index_or batch.heads.items batch.whole head
