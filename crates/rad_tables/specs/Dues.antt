-- The entry that is due first. Own.
use Rattle.std.specs.Prelude.{◌≡◌, ℕ, ◌<◌, ◌≤◌, ◌⊎◌, Bool, Some}
use Rattle.std.specs.FinMap as map
use Rattle.rad_tables.specs.declared.slots.Slot.{Slot}
use Rattle.rad_tables.specs.declared.slots.Due.{Due}
use Rattle.rad_tables.specs.Pairs.{slot_cmp}

-- one due time and number is before another, or the two are the same. The order is by due time and, at the same due
-- time, by number
abbrev pub NotAfter : ℕ × ℕ → ℕ × ℕ → Type 0
NotAfter a b = (a.0 < b.0) ⊎ ((a.0 ≡ b.0) × (a.1 ≤ b.1))

module _ {T : Type 0} (due number : T → ℕ) (spent : T → Bool) where
  -- of the entries that are spent, or of those that are not, the one under this pair is due first; at the same due
  -- time it has the lowest number
  pub record IsLeastDue (entries : map.FinMap slot_cmp T) (which : Bool) (slot : Slot) : Type 0 where
    pub least : T
    pub there : map.get entries slot ≡ Some least
    pub kind : spent least ≡ which
    pub first : (other : Slot) (entry : T) → map.get entries other ≡ Some entry → spent entry ≡ which → NotAfter (due least, number least) (due entry, number entry)

  -- the same, with the due time of that entry
  pub record IsFirstDue (entries : map.FinMap slot_cmp T) (which : Bool) (found : Due) : Type 0 where
    pub at : IsLeastDue entries which found.slot
    pub due_is : found.due ≡ due at.least

-- there is no entry that is spent, or none that is not
abbrev pub NoneIs : {T : Type 0} → (T → Bool) → map.FinMap slot_cmp T → Bool → Type 0
NoneIs spent entries which = (slot : Slot) (entry : _) → map.get entries slot ≡ Some entry → spent entry ≡ which → ⊥

-- no pair is in use
abbrev pub NoneInUse : {T : Type 0} → map.FinMap slot_cmp T → Type 0
NoneInUse entries = (slot : Slot) (entry : _) → map.get entries slot ≡ Some entry → ⊥

-- the earliest due time of all entries
pub record IsEarliest {T : Type 0} (due : T → ℕ) (entries : map.FinMap slot_cmp T) (moment : ℕ) : Type 0 where
  pub slot : Slot
  pub entry : T
  pub there : map.get entries slot ≡ Some entry
  pub due_is : moment ≡ due entry
  pub first : (other : Slot) (e : T) → map.get entries other ≡ Some e → moment ≤ due e
