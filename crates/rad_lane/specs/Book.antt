-- The book of a lane (own): the state of the lane as a contract sees it, by which operators bill.
use Rattle.std.specs.Prelude.{◌≡◌, ℕ, ◌+◌, max, List, length, Option, Some}
use Rattle.std.specs.FinMap as map
use Rattle.rad_tables.specs.declared.slots.Slot.{Slot}
use Rattle.rad_tables.specs.Pairs.{Table, slot_cmp}
use Rattle.rad_lane.specs.declared.stamp.Stamp.{Stamp}
use Rattle.rad_lane.specs.Stamp.{Recorded}
use Rattle.rad_lane.specs.Outstanding.{Outstanding, AnswerKept}
use Rattle.rad_lane.specs.Setup.{LaneSetup}
use Rattle.rad_lane.specs.declared.entry.Entry.{Entry}
use Rattle.rad_lane.specs.declared.entry.Entry.TheVariants.{Sending as sending}
use Rattle.rad_lane.specs.Entries.{sendings_in}
use Rattle.rad_lane.specs.declared.watch.Watch.{Watch}

pub record Book : Type 0 where
  -- the setup of the lane
  pub setup : LaneSetup
  -- the number of the first request that the book still holds
  pub opening : ℕ
  -- the requests accepted, in order; and those of them that were sent, in order
  pub accepted : List Stamp
  pub sent : List Stamp
  -- the queued requests, in order
  pub queued : List Recorded
  -- the answers, in order; and how many answers the lane has given in all
  pub answered : List AnswerKept
  pub served : ℕ
  -- what is outstanding under each pair in use, a sending or the probe; and the pair last allotted
  pub held : map.FinMap slot_cmp Entry
  pub allotted : Option Slot
  -- how many requests had been accepted when the lane was drained
  pub drain : Option ℕ
  -- whether the home server is marked up, or down until a moment; if down, also the moment of the next probe and the
  -- pair of the outstanding probe
  pub watch : Watch
  -- the last moment of a call
  pub last : ℕ

-- The moment that counts in a call: the last one if the given one is before it, since moments never go back.
abbrev pub moment_in : Book → ℕ → ℕ
moment_in book moment = max book.last moment

-- The number of the next request.
abbrev pub next_number : Book → ℕ
next_number book = book.opening + length book.accepted

-- This entry is the request that is outstanding under a pair.
abbrev pub outstanding_at : Book → Slot → Outstanding → Type 0
outstanding_at book slot entry = map.get book.held slot ≡ Some (sending entry)

-- The outstanding requests, and their number: the entries under the pairs in use, without the probe.
abbrev pub outstanding_of : Book → List Outstanding
outstanding_of book = sendings_in book.held

abbrev pub outstanding_count : Book → ℕ
outstanding_count book = length (outstanding_of book)

-- The table of pairs that the allotment uses.
abbrev pub table_of : Book → Table Entry
table_of book = record { ports = book.setup.ports; entries = book.held; allotted = book.allotted }
