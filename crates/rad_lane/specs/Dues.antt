-- Which sendings are due (own).
use Rattle.std.specs.Prelude.{◌≡◌, ℕ, ◌-◌, ◌^◌, ◌<◌, ◌≤◌, min, Bool, true}
use Rattle.rad_tables.specs.declared.slots.Slot.{Slot}
use Rattle.rad_tables.specs.Dues.{NotAfter}
use Rattle.rad_lane.specs.Outstanding.{Outstanding, is_spent, due_and_number}
use Rattle.rad_lane.specs.Book.{Book, outstanding_at}

-- If `spent`, no outstanding sending that is spent is due; if not, none that is not spent is due.
abbrev pub NoneDue : Book → ℕ → Bool → Type 0
NoneDue book now spent = (slot : Slot) (entry : Outstanding) → outstanding_at book slot entry → is_spent entry ≡ spent → now < entry.due

-- This sending is due. Of the outstanding sendings that are spent, or of those that are not spent, it has the
-- earliest due time and, at the same due time, the lowest number.
pub record IsNextDue (book : Book) (now : ℕ) (spent : Bool) (slot : Slot) (entry : Outstanding) : Type 0 where
  pub there : outstanding_at book slot entry
  pub kind : is_spent entry ≡ spent
  pub due : entry.due ≤ now
  pub first : (other : Slot) (e : Outstanding) → outstanding_at book other e → is_spent e ≡ spent → NotAfter (due_and_number entry) (due_and_number e)

-- Some outstanding sending is due and spent.
pub record IsSpentDue (book : Book) (now : ℕ) : Type 0 where
  pub slot : Slot
  pub entry : Outstanding
  pub there : outstanding_at book slot entry
  pub spent : is_spent entry ≡ true
  pub due : entry.due ≤ now

-- No outstanding sending is spent.
abbrev pub NoneSpent : Book → Type 0
NoneSpent book = (slot : Slot) (entry : Outstanding) → outstanding_at book slot entry → is_spent entry ≡ true → ⊥

-- Of the outstanding sendings that are spent, this one has the earliest due time and, at the same due time, the
-- lowest number.
pub record IsFirstSpent (book : Book) (entry : Outstanding) : Type 0 where
  pub slot : Slot
  pub there : outstanding_at book slot entry
  pub spent : is_spent entry ≡ true
  pub first : (other : Slot) (e : Outstanding) → outstanding_at book other e → is_spent e ≡ true → NotAfter (due_and_number entry) (due_and_number e)

-- The earliest due time of all outstanding sendings.
pub record IsLeastOfAll (book : Book) (due : ℕ) : Type 0 where
  pub slot : Slot
  pub entry : Outstanding
  pub there : outstanding_at book slot entry
  pub due_is : due ≡ entry.due
  pub least : (other : Slot) (e : Outstanding) → outstanding_at book other e → due ≤ e.due

abbrev pub NoneOutstanding : Book → Type 0
NoneOutstanding book = (slot : Slot) (entry : Outstanding) → outstanding_at book slot entry → ⊥

-- A moment is below 2 ^ 62: a later due time is returned as the last moment.
abbrev pub as_moment : ℕ → ℕ
as_moment due = min due (2 ^ 62 - 1)
