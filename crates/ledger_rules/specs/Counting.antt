-- What is counted of the entries of one lane of a run (own): those that are right, in the order of their lines.
use Rattle.std.specs.Prelude.{◌≡◌, ℕ, ◌+◌, ◌<◌, ◌≤◌, List, ◌∷◌, ◌++◌, length, Option, MatchOption, Some, None, ◌⊎◌, IfSome}
use Rattle.std.specs.List.{last_or, range_with_len}
use Rattle.std.specs.Option.{option_map_or}
use Rattle.ledger_rules.specs.declared.tally.Tally.{Tally}
use Rattle.ledger_rules.specs.declared.tally.Gap.{Gap}
use Rattle.ledger_rules.specs.declared.tally.Verdict.{Verdict}
use Rattle.ledger_rules.specs.declared.tally.Verdict.TheVariants.{Whole, Open, Missing, Unaccounted, Part, Contradicted}

-- The serials go on from the first one, none left out: 0, 1, 2 and so on where that is 0.
abbrev pub GoOnFrom : ℕ → List ℕ → Type 0
GoOnFrom first serials = serials ≡ range_with_len first (length serials)

-- The serial that the next entry has, where none is left out: one above the last one, or the first one where there is none yet.
abbrev pub next_after : ℕ → List ℕ → ℕ
next_after first serials = option_map_or (λ serial. serial + 1) (last_or None serials) first

-- The serials before the gap go on from the first one; then those from the gap's first to its last are left out.
pub record IsFirstGap (first : ℕ) (serials : List ℕ) (gap : Gap) : Type 0 where
  pub before : List ℕ
  pub after : List ℕ
  pub split : serials ≡ before ++ (gap.last + 1) ∷ after
  pub goes_on : GoOnFrom first before
  pub from : gap.first ≡ first + length before
  pub some : gap.first ≤ gap.last

-- How a tally stands after entries of these serials.
pub record Counts (tally : Tally) (serials : List ℕ) : Type 0 where
  pub entries : tally.entries ≡ length serials
  pub next : tally.next ≡ next_after tally.first serials
  pub gap : MatchOption tally.gap (GoOnFrom tally.first serials) (λ gap. IsFirstGap tally.first serials gap)

-- The gap that an entry of this serial leaves before it.
abbrev pub LeavesGap : ℕ → ℕ → Option Gap → Type 0
LeavesGap next serial None = next ≡ serial
LeavesGap next serial (Some gap) = (gap.first ≡ next) × (gap.last + 1 ≡ serial) × (gap.first ≤ gap.last)

-- All responses up to the end line's count are there, each once and in order.
pub record IsWhole (tally : Tally) (serials : List ℕ) : Type 0 where
  pub count : ℕ
  pub ended : tally.end ≡ Some count
  pub goes_on : GoOnFrom tally.first serials
  pub all : tally.first + length serials ≡ count

-- Nothing is missing of what is there, and no end line counts it: there is none, or it counts fewer than there are.
pub record IsOpen (tally : Tally) (serials : List ℕ) : Type 0 where
  pub goes_on : GoOnFrom tally.first serials
  pub unended : IfSome tally.end (λ count. count < tally.first + length serials)

-- An end line counts fewer responses than there are up to the last entry.
abbrev pub IsPassed : Tally → List ℕ → Type 0
IsPassed tally serials = MatchOption tally.end ⊥ (λ count. count < next_after tally.first serials)

-- The first gap: between two entries, or behind the last one, up to the end line's count.
pub record IsCutShort (tally : Tally) (serials : List ℕ) (gap : Gap) : Type 0 where
  pub count : ℕ
  pub ended : tally.end ≡ Some count
  pub goes_on : GoOnFrom tally.first serials
  pub from : gap.first ≡ tally.first + length serials
  pub to : gap.last + 1 ≡ count
  pub some : gap.first ≤ gap.last

abbrev pub Tells : Tally → List ℕ → Verdict → Type 0
Tells tally serials Whole = IsWhole tally serials
Tells tally serials Open = IsOpen tally serials
Tells tally serials (Missing gap) = IsFirstGap tally.first serials gap ⊎ IsCutShort tally serials gap
Tells tally serials Unaccounted = ⊥
Tells tally serials Part = ⊥
Tells tally serials Contradicted = ⊥
