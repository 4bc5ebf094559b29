-- The words that tell when a request was accepted, and how often it was sent (own): its row, and a time or a count.
use Rattle.std.specs.Prelude.{ℕ, ◌+◌, ◌*◌, ◌/◌, ◌%◌, ◌^◌, ◌==◌, if◌then◌else◌, Option, Some, None}

abbrev pub moment_word : ℕ → ℕ → ℕ
moment_word row time = row % 2 ^ 22 * 2 ^ 42 + time % 2 ^ 42

-- The time that a word has, if it is one of this row.
abbrev pub moment_in : ℕ → ℕ → Option ℕ
moment_in row word = if word / 2 ^ 42 == row % 2 ^ 22 then Some (word % 2 ^ 42) else None

abbrev pub sendings_word : ℕ → ℕ → ℕ
sendings_word row count = row % 2 ^ 32 * 2 ^ 32 + count

-- The count that a word has, if it is one of this row.
abbrev pub sendings_in : ℕ → ℕ → Option ℕ
sendings_in row word = if word / 2 ^ 32 == row % 2 ^ 32 then Some (word % 2 ^ 32) else None
