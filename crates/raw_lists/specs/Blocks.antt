-- Blocks, each a queue of its own. Own.
use Rattle.std.specs.Prelude.{◌≡◌, ℕ, ◌+◌, ◌-◌, ◌^◌, ◌<◌, ◌≤◌, ◌⊎◌, Bool, true, false, List, [], ◌∷◌, ◌++◌, Option, Some, None, drop, length}
use Rattle.std.specs.Borrow.{Bor}
use Rattle.raw_lists.specs.Queue.{Queue}

-- a block without items
abbrev pub fresh : {T : Type 0} → Queue T
fresh = record { items = []; room = 32 }

-- the blocks that a queue holds: the linked ones, and whether there is a spare one
pub record Held (T : Type 0) : Type 0 where
  pub linked : List (Queue T)
  pub has_spare : Bool

module _ {T : Type 0} where
  -- the items of all blocks, in order
  unfoldable pub items_of : List (Queue T) → List T
  items_of [] = []
  items_of (block ∷ blocks) = block.items ++ items_of blocks

  -- the items of a block from an index on, if there is a block
  abbrev pub left_in : Option (Bor (Queue T)) → ℕ → List T
  left_in None index = []
  left_in (Some block) index = drop index block.now.items

  -- the items of the first block, and their number
  unfoldable pub first_items : List (Queue T) → List T
  first_items [] = []
  first_items (block ∷ blocks) = block.items

  abbrev pub first_count : List (Queue T) → ℕ
  first_count blocks = length (first_items blocks)

  -- the room of the last block
  unfoldable pub room_of : List (Queue T) → ℕ
  room_of [] = 0
  room_of (block ∷ []) = block.room
  room_of (block ∷ next ∷ blocks) = room_of (next ∷ blocks)

  -- the blocks after an item is added at the end of the last one
  unfoldable pub pushed : List (Queue T) → T → List (Queue T)
  pushed [] item = []
  pushed (block ∷ []) item = record { items = block.items ++ item ∷ []; room = block.room - 1 } ∷ []
  pushed (block ∷ next ∷ blocks) item = block ∷ pushed (next ∷ blocks) item

  -- there are no items
  unfoldable pub has_none : List T → Bool
  has_none [] = true
  has_none (item ∷ items) = false

  -- the first block has no item
  unfoldable pub begins_empty : List (Queue T) → Bool
  begins_empty [] = false
  begins_empty (block ∷ blocks) = has_none block.items

  -- the last block has no item
  unfoldable pub ends_empty : List (Queue T) → Bool
  ends_empty [] = false
  ends_empty (block ∷ []) = has_none block.items
  ends_empty (block ∷ next ∷ blocks) = ends_empty (next ∷ blocks)

  -- each block has an item
  unfoldable pub AllHaveItems : List (Queue T) → Type 0
  AllHaveItems [] = Unit {0}
  AllHaveItems (block ∷ blocks) = (0 < length block.items) × AllHaveItems blocks

  -- each block except the last has an item, and the last has an item or room
  unfoldable pub IsChain : List (Queue T) → Type 0
  IsChain [] = Unit {0}
  IsChain (block ∷ []) = (0 < length block.items) ⊎ (0 < block.room)
  IsChain (block ∷ next ∷ blocks) = (0 < length block.items) × IsChain (next ∷ blocks)

  -- the first block was emptied, others follow it, and each of these has an item
  pub record BeginsEmptied (blocks : List (Queue T)) : Type 0 where
    pub emptied : begins_empty blocks ≡ true
    pub followed : 2 ≤ length blocks
    pub filled : AllHaveItems (drop 1 blocks)

  -- a chain, or an emptied block followed by blocks with items
  abbrev pub IsLine : List (Queue T) → Type 0
  IsLine blocks = IsChain blocks ⊎ BeginsEmptied blocks

  -- at most one block is empty: the first one, if the last pop emptied it, or the last one, or the spare one
  pub record HasAtMostOneEmpty (linked : List (Queue T)) (has_spare : Bool) : Type 0 where
    pub lined : IsLine linked
    pub alone : has_spare ≡ true → AllHaveItems linked

  -- the linked blocks, if there are any blocks
  abbrev pub linked_of : Option (Held T) → List (Queue T)
  linked_of None = []
  linked_of (Some held) = held.linked

  -- the block is the last one
  abbrev pub EndsWith : List (Queue T) → Queue T → Type 0
  EndsWith blocks last = (front : List (Queue T)) × (front ++ last ∷ [] ≡ blocks)

  -- a chain with the same items and the same room
  pub record IsSettled (old new : List (Queue T)) : Type 0 where
    pub chained : IsChain new
    pub items : items_of new ≡ items_of old
    pub room : room_of new ≡ room_of old

  -- a chain with the same items and the same room, and then a block without items
  abbrev pub IsGrown : List (Queue T) → List (Queue T) → Type 0
  IsGrown old new = (settled : List (Queue T)) × IsSettled old settled × (new ≡ settled ++ fresh ∷ [])

  -- there is one block, and it has one item
  abbrev pub IsLone : List (Queue T) → Type 0
  IsLone blocks = (length blocks ≡ 1) × (first_count blocks ≡ 1)

  -- a chain with the same items, whose first block has at least two items, or whose blocks all have items. The room
  -- is the same, or there is one block with one item
  pub record IsReady (old new : List (Queue T)) : Type 0 where
    pub chained : IsChain new
    pub items : items_of new ≡ items_of old
    pub more : (2 ≤ first_count new) ⊎ AllHaveItems new
    pub room : (room_of new ≡ room_of old) ⊎ IsLone new

  -- the first item is removed from a block; if no other is left, the block begins at its first place again
  pub record IsPopped (old : Queue T) (item : T) (new : Queue T) : Type 0 where
    pub items : old.items ≡ item ∷ new.items
    pub room : ((0 < length new.items) × (new.room ≡ old.room)) ⊎ (new ≡ fresh)

  -- the first item is removed from the first block
  abbrev pub IsFirstPopped : List (Queue T) → T → List (Queue T) → Type 0
  IsFirstPopped blocks item new =
      (first : Queue T) × (left : Queue T) × (rest : List (Queue T)) × (blocks ≡ first ∷ rest) × (new ≡ left ∷ rest) × IsPopped first item left

  -- a chain with the items of two queues, those of the second one last, and with the room of one of the two
  pub record IsJoined (first second new : List (Queue T)) : Type 0 where
    pub chained : IsChain new
    pub items : items_of new ≡ items_of first ++ items_of second
    pub room : (room_of new ≡ room_of first) ⊎ (room_of new ≡ room_of second)

  -- the blocks of a queue that counts its items. The room is at most that of one block, and the count and the number
  -- of blocks fit into a `usize`
  pub record IsQueue (count : ℕ) (blocks : List (Queue T)) : Type 0 where
    pub counted : count ≡ length (items_of blocks)
    pub one_block : room_of blocks ≤ 32
    pub fits : count + room_of blocks + 1 < 2 ^ 64
