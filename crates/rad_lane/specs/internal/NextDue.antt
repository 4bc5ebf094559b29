-- Before which moment nothing is due, and whether a request may be sent (own). No public clause cites this module.
use Rattle.std.specs.Prelude.{◌≡◌, ℕ, ◌<◌, ◌≤◌, length, Some}
use Rattle.std.specs.FinMap as map
use Rattle.rad_tables.specs.declared.slots.Slot.{Slot}
use Rattle.rad_tables.specs.Pairs.{slot_cmp}
use Rattle.rad_lane.specs.declared.entry.Entry.{Entry}
use Rattle.rad_lane.specs.Entries.{due_in}
use Rattle.rad_lane.specs.Book.{Book, outstanding_count}

-- No entry is due before this moment.
abbrev pub NoneBefore : map.FinMap slot_cmp Entry → ℕ → Type 0
NoneBefore held moment = (slot : Slot) (entry : Entry) → map.get held slot ≡ Some entry → moment ≤ due_in entry

-- A request may be sent for the first time: one is queued, and the window has room for it.
pub record MaySend (book : Book) : Type 0 where
  pub queued : 1 ≤ length book.queued
  pub room : outstanding_count book < book.setup.limits.window
