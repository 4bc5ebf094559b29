-- Sums that somebody kept, and sums that runs name (own).
use Rattle.std.specs.Prelude.{ℕ, ◌||◌, ◌&&◌, ◌==◌, List, bytes_eq}
use Rattle.rad_audit.specs.declared.kept_sums.KeptSum.{KeptSum}
use Rattle.rad_audit.specs.declared.ties.Tie.{Tie}

-- A sum is found once its run has it in its file.
abbrev pub seen : ℕ → ℕ → List ℕ → KeptSum → KeptSum
seen run file sum kept =
    record kept { is_found = kept.is_found || (kept.run == run && kept.file == file && bytes_eq kept.sum sum) }

-- The same of a sum that a run names: once a line of the run before has it.
abbrev pub tied : ℕ → List ℕ → Tie → Tie
tied run sum tie = record tie { is_found = tie.is_found || (tie.run == run && bytes_eq tie.sum sum) }
