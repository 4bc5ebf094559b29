-- A count over a list, for the totals of all lanes (own).
use Rattle.std.specs.Prelude.{ℕ, ◌^◌, ◌-◌, List, min, sum_by}

-- The sum of the counts of all items, or 2^64 - 1, the greatest number of the machine, if the sum is above that.
abbrev pub count_in_all : {X : Type 0} → (X → ℕ) → List X → ℕ
count_in_all count items = min (sum_by count items) (2 ^ 64 - 1)
