-- The entry at some places that is due first. No public clause cites this module.
use Rattle.std.specs.Prelude.{◌≡◌, ℕ, ◌<◌, ◌≤◌, min, List, length, slice_index, Bool, Option, Some, None, IsSome, ◌⊎◌}
use Rattle.rad_tables.specs.Dues.{NotAfter}
use Rattle.rad_tables.specs.internal.Kept.{at}
use Rattle.rad_tables.specs.declared.cells.Waiting.{Waiting}

-- there is an entry at each of the places
abbrev pub AreInUse : {T : Type 0} → List (Option T) → List ℕ → Type 0
AreInUse contents places = (i : ℕ) → i < length places → IsSome (at contents (slice_index places i))

abbrev pub due_and_number : Waiting → ℕ × ℕ
due_and_number waiting = (waiting.due, waiting.number)

-- the result is one of the two, and neither is before it
abbrev pub IsEarlier : Waiting → Option Waiting → Waiting → Type 0
IsEarlier waiting None result = result ≡ waiting
IsEarlier waiting (Some least) result = ((result ≡ waiting) ⊎ (result ≡ least))
    × NotAfter (due_and_number result) (due_and_number waiting)
    × NotAfter (due_and_number result) (due_and_number least)

-- at none of the first `count` places is there an entry of this kind
abbrev pub NoneAmong : {T : Type 0} → (T → Bool) → List (Option T) → List ℕ → Bool → ℕ → Type 0
NoneAmong spent contents places which count = (i : ℕ) (entry : _) → i < count → at contents (slice_index places i) ≡ Some entry → spent entry ≡ which → ⊥

module _ {T : Type 0} (due number : T → ℕ) (spent : T → Bool) (contents : List (Option T)) (places : List ℕ) (which : Bool) (count : ℕ) where
  -- of the entries of this kind at the first `count` places, this one is due first
  pub record IsLeastAmong (waiting : Waiting) : Type 0 where
    pub position : ℕ
    pub within : position < count
    pub place_is : waiting.place ≡ slice_index places position
    pub least : T
    pub there : at contents waiting.place ≡ Some least
    pub kind : spent least ≡ which
    pub due_is : waiting.due ≡ due least
    pub number_is : waiting.number ≡ number least
    pub first : (i : ℕ) (entry : T) → i < count → at contents (slice_index places i) ≡ Some entry → spent entry ≡ which → NotAfter (due_and_number waiting) (due entry, number entry)

-- of one due time and the earliest one so far, the earlier one
abbrev pub sooner : ℕ → Option ℕ → ℕ
sooner due None = due
sooner due (Some earliest) = min earliest due

module _ {T : Type 0} (due : T → ℕ) (contents : List (Option T)) (places : List ℕ) (count : ℕ) where
  -- this is the earliest due time of the entries at the first `count` places
  pub record IsEarliestOf (moment : ℕ) : Type 0 where
    pub position : ℕ
    pub within : position < count
    pub least : T
    pub there : at contents (slice_index places position) ≡ Some least
    pub due_is : moment ≡ due least
    pub first : (i : ℕ) (entry : T) → i < count → at contents (slice_index places i) ≡ Some entry → moment ≤ due entry

  -- the same, if there is any
  abbrev pub IsEarliestAmong : Option ℕ → Type 0
  IsEarliestAmong None = count ≡ 0
  IsEarliestAmong (Some moment) = IsEarliestOf moment
