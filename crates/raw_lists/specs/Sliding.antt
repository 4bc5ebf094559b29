-- A list that moves from one row into another, a few items at a time. Own.
use Rattle.std.specs.Prelude.{◌≡◌, ℕ, List, [], Option, Some, None, length, take, filter, Bool, not, nat_lt}
use Rattle.raw_lists.specs.Queue.{Slid}

module _ {T : Type 0} where
  -- the items of a row, and the number of places after them, if there is a row
  abbrev pub items_in : Option (Slid T) → List T
  items_in None = []
  items_in (Some row) = row.items

  abbrev pub room_in : Option (Slid T) → ℕ
  room_in None = 0
  room_in (Some row) = row.room

  -- the first items of a list
  abbrev pub IsFront : List T → List T → Type 0
  IsFront front items = front ≡ take (length front) items

  -- whether an item is below a number, by the number that each item has; the items that are, and those that are not,
  -- each in order
  abbrev pub is_below : (T → ℕ) → ℕ → T → Bool
  is_below number_of number item = nat_lt (number_of item) number

  abbrev pub below : (T → ℕ) → ℕ → List T → List T
  below number_of number items = filter (is_below number_of number) items

  abbrev pub since : (T → ℕ) → ℕ → List T → List T
  since number_of number items = filter (λ item. not (is_below number_of number item)) items
