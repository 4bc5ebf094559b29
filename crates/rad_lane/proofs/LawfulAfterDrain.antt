-- A lane that is drained is lawful still.
use Rattle.std.proofs.Common.{◌≡◌, ℕ, List, Option, Some, None, refl, sym, ap, ◌∙◌}
use Rattle.std.specs.Prelude.{IfSome}
use Rattle.std.specs.FinMap as map
use Rattle.rad_tables.specs.Keys.{key_cmp}
use Rattle.rad_lane.specs.declared.answered.AnswerIndex.{AnswerIndex}
use Rattle.rad_lane.specs.Stamp.{Kept}
use Rattle.rad_lane.specs.Book.{Book, next_number}
use Rattle.rad_lane.specs.Drains.{drained_at}
use Rattle.rad_lane.specs.Lawful.{IsLawful}
use Rattle.rad_lane.specs.internal.Invariant.{IsConsistent}

count_kept : (book : Book) (drain : Option ℕ) → IfSome drain (λ count. next_number book ≡ count) → next_number book ≡ drained_at book drain
count_kept book None h = refl
count_kept book (Some count) h = h

pub drained_lawful : (book : Book) → IsLawful book → IsLawful (record book { drain = Some (drained_at book book.drain) })
drained_lawful book l = record {
  in_order = l.in_order;
  numbered = l.numbered;
  timed = l.timed;
  passed = l.passed;
  no_repeat = l.no_repeat;
  placed_once = l.placed_once;
  of_its_realms = l.of_its_realms;
  outstanding_realms = l.outstanding_realms;
  answered_realms = l.answered_realms;
  forwards_its_record = l.forwards_its_record;
  probe_apart = l.probe_apart;
  holds_its_own = l.holds_its_own;
  allotted_in_range = l.allotted_in_range;
  ports_least = l.ports_least;
  ports_most = l.ports_most;
  queued_bounded = l.queued_bounded;
  outstanding_bounded = l.outstanding_bounded;
  accepted_bounded = l.accepted_bounded;
  answers_verified = l.answers_verified;
  serials_rise = l.serials_rise;
  served_count = l.served_count;
  drained_count = count_kept book book.drain l.drained_count;
}

pub stands_drained : (book : Book) (kept : List Kept) (ports : ℕ) (numbers : map.FinMap key_cmp ℕ) (cells : List (Option AnswerIndex)) (count : ℕ) → IsConsistent book kept ports numbers cells count → IsConsistent (record book { drain = Some (drained_at book book.drain) }) kept ports numbers cells count
stands_drained book kept ports numbers cells count s = record {
  lawful = drained_lawful book s.lawful;
  rooms = s.rooms;
  ports_are = s.ports_are;
  counted = s.counted;
  last_numbers = s.last_numbers;
  since_opening = s.since_opening;
  cells_are = s.cells_are;
  indices = s.indices;
  numbers_fit = s.numbers_fit;
}

-- the same where the book is seen as another, and the count is known by an equation
pub stands_drained_by : (book value : Book) (kept : List Kept) (ports : ℕ) (numbers : map.FinMap key_cmp ℕ) (cells : List (Option AnswerIndex)) (outstanding count : ℕ) → book ≡ value → count ≡ drained_at value value.drain → IsConsistent book kept ports numbers cells outstanding → IsConsistent (record book { drain = Some count }) kept ports numbers cells outstanding
stands_drained_by book value kept ports numbers cells outstanding count same counted s =
    let here : count ≡ drained_at book book.drain = counted ∙ ap (λ (b : Book). drained_at b b.drain) (sym same) in
    rw here (stands_drained book kept ports numbers cells outstanding s)
