-- When a file is closed and the next one begun.
use Rattle.std.specs.Prelude.{◌≡◌, ℕ, ◌+◌, ◌<◌, ◌≤◌, ◌⊎◌, min, Option, Some, None}
use Rattle.ledger_files.specs.declared.rotation.OpenFile.{OpenFile}
use Rattle.ledger_files.specs.declared.rotation.FileDay.{FileDay}
use Rattle.ledger_files.specs.declared.rotation.StepBack.{StepBack}

-- There is no file yet, or the entries are of a later day than those in the file, or they would make it longer than 256 MiB less 64 KiB.
abbrev pub IsNextDue : Option OpenFile → ℕ → ℕ → Type 0
IsNextDue None day octets = Unit {0}
IsNextDue (Some file) day octets = (file.day < day) ⊎ (268369920 < file.size + octets)

-- A day before the file's is seen, after a step back. Once the step is ten seconds old, the file's day is the earliest day that was seen
-- since; until then it stays.
pub record StaysBack (file : ℕ) (step : StepBack) (day now : ℕ) (new : FileDay) : Type 0 where
  pub young : now < step.since + 10000 → (new.day ≡ file) × (new.back ≡ Some (record { day = min step.day day; since = step.since }))
  pub old : step.since + 10000 ≤ now → (new.day ≡ min step.day day) × (new.back ≡ None)

-- A day before the file's is seen: a step back begins, or it goes on.
abbrev pub GoesBack : ℕ → Option StepBack → ℕ → ℕ → FileDay → Type 0
GoesBack file None day now new = (new.day ≡ file) × (new.back ≡ Some (record { day = day; since = now }))
GoesBack file (Some step) day now new = StaysBack file step day now new

-- A day is seen. The file's own day, or a later one, ends a step back.
pub record Sees (old : FileDay) (day now : ℕ) (new : FileDay) : Type 0 where
  pub ahead : old.day ≤ day → (new.day ≡ old.day) × (new.back ≡ None)
  pub back : day < old.day → GoesBack old.day old.back day now new
