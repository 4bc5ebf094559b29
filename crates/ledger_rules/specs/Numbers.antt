-- The numbers of the requests of a lane, as a set (own).
use Rattle.std.specs.Prelude.{◌≡◌, ◌≢◌, ℕ, ◌<◌, ◌≤◌, ◌^◌, ◌↔◌, IsTrue, List}
use Rattle.std.specs.List.{AllPairs, Contains}
use Rattle.ledger_rules.specs.Edges.{is_in}
use Rattle.ledger_rules.specs.declared.numbers.Numbers.{Numbers}

-- It is known that the number is in the set.
abbrev pub IsKnown : Numbers → ℕ → Type 0
IsKnown numbers n = (numbers.exact_from ≤ n) × IsTrue (is_in numbers.edges.items n)

-- It is known that it is not.
abbrev pub IsKnownAbsent : Numbers → ℕ → Type 0
IsKnownAbsent numbers n = (numbers.exact_from ≤ n) × ¬ IsTrue (is_in numbers.edges.items n)

-- What a set shows of the numbers that were put into it, in this order. From a number on, exactly these are in it; if that is 0, each of
-- them was put in once.
pub record Keeps (numbers : Numbers) (all : List ℕ) : Type 0 where
  pub below : (n : ℕ) → Contains all n → n < 2 ^ 64
  pub exact : (n : ℕ) → numbers.exact_from ≤ n → n < 2 ^ 64 → IsTrue (is_in numbers.edges.items n) ↔ Contains all n
  pub once : numbers.exact_from ≡ 0 → AllPairs (λ m n. m ≢ n) all

-- Nothing of it is changed.
abbrev pub IsAsBefore : Numbers → Numbers → Type 0
IsAsBefore old new = (new.edges.items ≡ old.edges.items) × (new.exact_from ≡ old.exact_from)

-- Each number below this one stands in the list once, and no other number does.
pub record IsEachOnce (count : ℕ) (all : List ℕ) : Type 0 where
  pub which : (n : ℕ) → Contains all n ↔ (n < count)
  pub once : AllPairs (λ m n. m ≢ n) all
