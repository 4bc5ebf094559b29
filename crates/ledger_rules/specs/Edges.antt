-- A set of numbers, by the edges of its ranges (own).
use Rattle.std.specs.Prelude.{◌≡◌, ℕ, ◌<◌, ◌≤◌, Bool, true, false, not, leb, List, [], ◌∷◌, length, get_or, Result, MatchResult}
use Rattle.std.specs.List.{AllPairs}

-- The other one, if so.
abbrev pub flipped : Bool → Bool → Bool
flipped true is = not is
flipped false is = is

-- Whether a number is in the set of these edges: the first edge begins a range, the number of the second one is behind it, and so on. So
-- it is in the set if the edges that are not above it are of an odd count.
abbrev pub is_in : List ℕ → ℕ → Bool
is_in [] n = false
is_in (edge ∷ edges) n = flipped (leb edge n) (is_in edges n)

-- Each edge is below the later ones.
abbrev pub IsRising : List ℕ → Type 0
IsRising edges = AllPairs (λ low high. low < high) edges

-- The place of a number among edges, or the one that it would have.
abbrev pub IsPlace : List ℕ → ℕ → Result ℕ ℕ → Type 0
IsPlace edges n place =
    MatchResult place (λ i. (i < length edges) × (get_or edges i 0 ≡ n))
    (λ i. (i ≤ length edges) × ((k : ℕ) → k < i → get_or edges k 0 < n) × ((k : ℕ) → i ≤ k → k < length edges → n < get_or edges k 0))
