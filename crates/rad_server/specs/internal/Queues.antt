-- What a client's queue of kept datagrams does, as lists (own). No public clause cites this module.
use Rattle.std.specs.Prelude.{◌≡◌, ◌<◌, ◌≤◌, ℕ, List, [], ◌∷◌, ◌++◌, length, Option, Some, None}

-- An item is put behind the others. Of a list that is as long as it may be, the first item is lost by that.
abbrev pub PutsBehind : {A : Type 0} → ℕ → List A → A → Option A → List A → Type 0
PutsBehind most old item None new = (length old < most) × (new ≡ old ++ item ∷ [])
PutsBehind most old item (Some lost) new = (most ≤ length old) × (old ++ item ∷ [] ≡ lost ∷ new)

-- The first item is taken, if there is one.
abbrev pub TakesFirst : {A : Type 0} → List A → Option A → List A → Type 0
TakesFirst old None new = (old ≡ []) × (new ≡ [])
TakesFirst old (Some first) new = old ≡ first ∷ new
