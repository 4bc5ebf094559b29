-- What a call leaves as it was of the lines that are to be written (own).
use Rattle.std.specs.Prelude.{◌≡◌, ℕ, List}
use Rattle.ledger_files.specs.Batches.{HoldsLines}
use Rattle.ledger_files.specs.Tails.{bodies_in}
use Rattle.ledger_files.specs.declared.batch.Batch.{Batch}
use Rattle.ledger_files.specs.declared.run_files.RunFiles.{RunFiles}

-- The lines of entries are the same.
pub record KeepsLines (old new : Batch) : Type 0 where
  pub octets : new.octets ≡ old.octets
  pub heads : new.heads ≡ old.heads
  pub ends : new.ends ≡ old.ends

-- The disk is the same, and how far the first line and the last one are written.
pub record KeepsFile {D : Type 0} (old new : RunFiles D) : Type 0 where
  pub disk : new.disk ≡ old.disk
  pub first : new.first ≡ old.first
  pub last : new.last ≡ old.last

-- So are the bodies of these lines, and where each line ends.
pub record KeepsBodies (old new : Batch) : Type 0 where
  pub heads : new.heads ≡ old.heads
  pub ends : new.ends ≡ old.ends
  pub bodies : (lines : List (List ℕ)) → HoldsLines old lines → (its : List (List ℕ)) × HoldsLines new its × (bodies_in its ≡ bodies_in lines)

-- The bodies are the same, and as many of the lines are counted as written whole. The last one is as it was.
pub record KeepsAll {D : Type 0} (old new : RunFiles D) : Type 0 where
  pub first : new.first.octets ≡ old.first.octets
  pub lines : KeepsBodies old.batch new.batch
  pub whole : new.batch.whole ≡ old.batch.whole
  pub last : new.last ≡ old.last
