-- What is left of a closed lane (own): the requests and answers that its book still holds, and the outstanding
-- sendings, without an outstanding probe. The watch, the drain and the last moment are dropped with the lane.
use Rattle.std.specs.Prelude.{◌≡◌, ℕ, ◌-◌, List, length, take, map as each}
use Rattle.std.specs.FinMap as map
use Rattle.std.specs.List.Sorted.{IsPermutation}
use Rattle.rad_tables.specs.declared.slots.Slot.{Slot}
use Rattle.rad_tables.specs.Pairs.{Table}
use Rattle.rad_lane.specs.declared.stamp.Stamp.{Stamp}
use Rattle.rad_lane.specs.declared.entry.Entry.{Entry}
use Rattle.rad_lane.specs.Stamp.{Recorded, Kept}
use Rattle.rad_lane.specs.Outstanding.{AnswerKept}
use Rattle.rad_lane.specs.Entries.{but_a_probe, sendings_in}
use Rattle.rad_lane.specs.Book.{Book, outstanding_of, outstanding_count}

pub record Left : Type 0 where
  pub lane : ℕ
  pub opening : ℕ
  pub accepted : List Stamp
  pub sent : List Stamp
  pub queued : List Recorded
  pub answered : List AnswerKept
  pub outstanding : Table Entry

-- What is left of a lane, by its parts: all of the accepted requests except the queued ones were sent.
abbrev pub left_of : ℕ → ℕ → List Stamp → List Kept → List AnswerKept → Table Entry → Left
left_of lane opening accepted kept answered outstanding = record {
  lane = lane;
  opening = opening;
  accepted = accepted;
  sent = take (length accepted - length kept) accepted;
  queued = each (λ k. k.recorded) kept;
  answered = answered;
  outstanding = outstanding;
}

pub record Leaves (book : Book) (left : Left) : Type 0 where
  pub lane : left.lane ≡ book.setup.lane
  pub opening : left.opening ≡ book.opening
  pub accepted : left.accepted ≡ book.accepted
  pub sent : left.sent ≡ book.sent
  pub queued : left.queued ≡ book.queued
  pub answered : left.answered ≡ book.answered
  -- under each pair, the outstanding sending of the book, if any; in all, as many sendings, of the same requests
  pub outstanding : (slot : Slot) → map.get left.outstanding.entries slot ≡ but_a_probe (map.get book.held slot)
  pub count : map.len left.outstanding.entries ≡ outstanding_count book
  pub stamps : IsPermutation (each (λ e. e.request.stamp) (outstanding_of book)) (each (λ e. e.request.stamp) (sendings_in left.outstanding.entries))
  pub ports : left.outstanding.ports ≡ book.setup.ports
  pub allotted : left.outstanding.allotted ≡ book.allotted
