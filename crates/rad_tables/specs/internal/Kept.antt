-- How the slots are stored: a cell for each pair, and a list of the places in use. No public clause cites this
-- module.
use Rattle.std.specs.Prelude.{map as each, ◌≡◌, ℕ, suc, ◌+◌, ◌*◌, ◌/◌, ◌%◌, ◌<◌, ◌≤◌, List, [], ◌∷◌, length, slice_index, slice_index_or, Option, Some, None, IsSome, IfSome, ◌⊎◌}
use Rattle.std.specs.Option.{option_map}
use Rattle.std.specs.FinMap as map
use Rattle.rad_tables.specs.declared.slots.Slot.{Slot}
use Rattle.rad_tables.specs.declared.cells.Cell.{Cell}
use Rattle.rad_tables.specs.declared.cells.Cell.TheVariants.{Free, Used}
use Rattle.rad_tables.specs.Pairs.{slot_cmp, IsInRange}

-- the place of a pair: port 0 has the first 256 places; and the pair of a place
abbrev pub place_of : Slot → ℕ
place_of slot = 256 * slot.port + slot.identifier

abbrev pub slot_at : ℕ → Slot
slot_at place = record { port = place / 256; identifier = place % 256 }

-- the place after that of the pair last allotted, or the first place
abbrev pub start_of : Option Slot → ℕ
start_of None = 0
start_of (Some last) = place_of last + 1

module _ {T : Type 0} where
  abbrev pub entry_of : Cell T → Option T
  entry_of Free = None
  entry_of (Used entry) = Some entry

  -- the entry in each cell, if there is one
  abbrev pub contents_of : List (Cell T) → List (Option T)
  contents_of cells = each entry_of cells

  -- the entry at a place, if there is one
  abbrev pub at : List (Option T) → ℕ → Option T
  at contents place = slice_index_or contents place None

  -- the entries from this place on, each with its pair
  abbrev pub listed : ℕ → List (Option T) → List (Slot × T)
  listed place [] = []
  listed place (None ∷ contents) = listed (suc place) contents
  listed place (Some entry ∷ contents) = (slot_at place, entry) ∷ listed (suc place) contents

  -- the entry at each pair
  abbrev pub entries_of : List (Option T) → map.FinMap slot_cmp T
  entries_of contents = map.from_entries (listed 0 contents)

  -- each entry is changed, and no place is filled or emptied
  pub record AreChanged (f : T → T) (old new : List (Option T)) : Type 0 where
    pub as_many : length new ≡ length old
    pub each_one : (place : ℕ) → at new place ≡ option_map f (at old place)

  -- each place from `from` up to, but not including, `to` is in use
  abbrev pub InUseBetween : List (Option T) → ℕ → ℕ → Type 0
  InUseBetween contents from to = (place : ℕ) → from ≤ place → place < to → IsSome (at contents place)

  -- the place is the first free one from `from` up to, but not including, `to`
  pub record IsFirstFreeBetween (contents : List (Option T)) (from to place : ℕ) : Type 0 where
    pub above : from ≤ place
    pub below : place < to
    pub free : at contents place ≡ None
    pub passed : InUseBetween contents from place

  -- the place is the first free one from the start on or, if there is none, from the first place on
  abbrev pub IsFirstFreeBehind : List (Option T) → ℕ → ℕ → Type 0
  IsFirstFreeBehind contents start place =
      IsFirstFreeBetween contents start (length contents) place
      ⊎ (InUseBetween contents start (length contents) × IsFirstFreeBetween contents 0 start place)

  -- `places` lists the places in use, and `positions` has the index of each of these in `places`
  pub record IsIndex (contents : List (Option T)) (places positions : List ℕ) : Type 0 where
    pub back : length positions ≡ length contents
    pub in_use : (i : ℕ) → i < length places → IsSome (at contents (slice_index places i))
    pub position : (i : ℕ) → i < length places → slice_index positions (slice_index places i) ≡ i
    pub known : (place : ℕ) → IsSome (at contents place) → slice_index positions place < length places
    pub placed : (place : ℕ) → IsSome (at contents place) → slice_index places (slice_index positions place) ≡ place

  pub record IsKept (contents : List (Option T)) (places positions : List ℕ) (room ports : ℕ) (allotted : Option Slot) : Type 0 where
    pub least : 1 ≤ ports
    pub most : ports ≤ 4
    pub pairs : length contents ≡ 256 * ports
    pub has_room : length contents ≤ room
    pub index : IsIndex contents places positions
    pub count : map.len (entries_of contents) ≡ length places
    pub last : IfSome allotted (IsInRange ports)
