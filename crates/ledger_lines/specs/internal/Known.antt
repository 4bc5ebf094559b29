-- Keys that are not among those of a line (own).
use Rattle.std.specs.Prelude.{◌≢◌, ◌≤◌, ◌<◌, ℕ, List, [], length, get_or}

-- From this place on, none of these is the key.
abbrev pub IsAbsent : List (List ℕ) → ℕ → List ℕ → Type 0
IsAbsent known from key = (place : ℕ) → from ≤ place → place < length known → get_or known place [] ≢ key
