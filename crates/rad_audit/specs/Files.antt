-- The files of a run (own), which are numbered from 0.
use Rattle.std.specs.Prelude.{◌≡◌, ℕ, ◌+◌, ◌≤◌, Option, MatchOption}
use Rattle.ledger_rules.specs.declared.tally.Gap.{Gap}

-- The files that are missing before one, where the next one has this number.
abbrev pub LacksFiles : ℕ → ℕ → Option Gap → Type 0
LacksFiles next file lacks = MatchOption lacks (file ≤ next) (λ gap. (gap.first ≡ next) × (gap.last + 1 ≡ file) × (gap.first ≤ gap.last))
