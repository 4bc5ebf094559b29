-- Queues: first in, first out. Own.
use Rattle.std.specs.Prelude.{◌≡◌, ℕ, List, [], ◌∷◌, Option, Some, None}

-- a queue as its callers see it: its items, the oldest first, and the number of items that it has room for
pub record Queue (T : Type 0) : Type 0 where
  pub items : List T
  pub room : ℕ

-- a row as its list sees it: how many places are free before the items, the items, and the room after them
pub record Slid (T : Type 0) : Type 0 where
  pub before : ℕ
  pub items : List T
  pub room : ℕ

-- the oldest item, if there is one
abbrev pub oldest : {T : Type 0} → List T → Option T
oldest [] = None
oldest (item ∷ later) = Some item

-- removing the oldest item from old leaves new; if old has no items, none is removed
abbrev pub TakesOldest : {T : Type 0} → List T → Option T → List T → Type 0
TakesOldest old None new = (old ≡ []) × (new ≡ [])
TakesOldest old (Some item) new = old ≡ item ∷ new
