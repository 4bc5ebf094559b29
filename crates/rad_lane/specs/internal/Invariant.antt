-- The fields of a lane, and the book that they represent (own). No public clause cites this module, but the model of
-- a lane does.
use Rattle.std.specs.Prelude.{◌≡◌, ℕ, ◌+◌, ◌-◌, ◌^◌, ◌≤◌, List, length, take, slice_get, map as each, All, Option, Some, None, find, ◌==◌, option_map, option_and_then}
use Rattle.std.specs.Option.{option_flatten}
use Rattle.std.specs.FinMap as map
use Rattle.rad_tables.specs.declared.duplicates.Key.{Key}
use Rattle.rad_tables.specs.Keys.{key_cmp}
use Rattle.rad_tables.specs.Pairs.{Table}
use Rattle.rad_lane.specs.declared.stamp.Stamp.{Stamp}
use Rattle.rad_lane.specs.declared.entry.Entry.{Entry}
use Rattle.rad_lane.specs.declared.answered.AnswerIndex.{AnswerIndex}
use Rattle.rad_lane.specs.declared.watch.Watch.{Watch}
use Rattle.rad_lane.specs.Stamp.{Kept}
use Rattle.rad_lane.specs.Outstanding.{AnswerKept}
use Rattle.rad_lane.specs.Setup.{LaneSetup}
use Rattle.rad_lane.specs.Book.{Book, next_number, outstanding_count}
use Rattle.rad_lane.specs.Repeat.{Repeats, fresh, repeats_answered, of_key, last_of, answer_to}
use Rattle.rad_lane.specs.Lawful.{IsLawful}
use Rattle.rad_lane.specs.internal.Keys.{merged, AreBounded}
use Rattle.rad_lane.specs.internal.NextDue.{NoneBefore}

-- The book: all of the accepted requests except the queued ones were sent.
abbrev pub book_of : LaneSetup → ℕ → List Stamp → List Kept → List AnswerKept → ℕ → Table Entry → Option ℕ → Watch → ℕ → Book
book_of setup opening accepted kept answered served slots drain watch last = record {
  setup = setup;
  opening = opening;
  accepted = accepted;
  sent = take (length accepted - length kept) accepted;
  queued = each (λ k. k.recorded) kept;
  answered = answered;
  served = served;
  held = slots.entries;
  allotted = slots.allotted;
  drain = drain;
  watch = watch;
  last = last;
}

-- The index of an answer: its serial, by which it is found, and its moment.
abbrev pub answer_index_of : AnswerKept → AnswerIndex
answer_index_of answer = record { serial = answer.serial; moment = answer.moment }

-- The index of the answer to the request of a number, if it is answered: as stored in cells that begin at the
-- opening, and as the answers have it.
abbrev pub answer_index_in : List (Option AnswerIndex) → ℕ → ℕ → Option AnswerIndex
answer_index_in cells opening number = option_flatten (slice_get cells (number - opening))

abbrev pub answer_index_to : ℕ → List AnswerKept → Option AnswerIndex
answer_index_to number answered = option_map answer_index_of (answer_to number answered)

-- The answer at a place, if there is a place; and the answer with a serial.
abbrev pub at_place : List AnswerKept → Option ℕ → Option AnswerKept
at_place answered place = option_and_then (λ p. slice_get answered p) place

abbrev pub answer_of : ℕ → List AnswerKept → Option AnswerKept
answer_of serial answered = find (λ a. a.serial == serial) answered

-- The number of the last request of a key.
abbrev pub last_number : Key → List Stamp → Option ℕ
last_number key stamps = option_map (λ s. s.number) (last_of (of_key key stamps))

-- What a request repeats whose key had this last number, if it had one.
abbrev pub repeats_number : Book → ℕ → Option ℕ → Repeats
repeats_number book now None = fresh
repeats_number book now (Some number) = repeats_answered book now number (answer_to number book.answered)

-- A record has room for the octets to be sent: the mark adds 12.
abbrev pub HasRoom : Kept → Type 0
HasRoom k = length k.recorded.text + 12 ≤ k.room

-- The other fields agree with the book. Each queued record has its room. The slots have the source ports of the
-- setup, and the sendings in them are counted. By the last number of each key and the index of each answer, a repeat
-- is found without a search through the book. The numbers are below 2 ^ 62.
pub record IsConsistent (book : Book) (kept : List Kept) (ports : ℕ) (numbers : map.FinMap key_cmp ℕ) (cells : List (Option AnswerIndex)) (count : ℕ) : Type 0 where
  pub lawful : IsLawful book
  pub rooms : All HasRoom kept
  pub ports_are : ports ≡ book.setup.ports
  pub counted : count ≡ outstanding_count book
  pub last_numbers : (key : Key) → map.get numbers key ≡ last_number key book.accepted
  pub since_opening : (key : Key) (number : ℕ) → map.get numbers key ≡ Some number → book.opening ≤ number
  pub cells_are : length cells ≡ length book.accepted
  pub indices : (number : ℕ) → book.opening ≤ number → answer_index_in cells book.opening number ≡ answer_index_to number book.answered
  pub numbers_fit : next_number book ≤ 2 ^ 62

-- The keys of the lane are bounded too, and so is when its entries are due.
pub record Stands (book : Book) (kept : List Kept) (ports : ℕ) (recent earlier : map.FinMap key_cmp ℕ) (end : ℕ) (cells : List (Option AnswerIndex)) (count moment : ℕ) : Type 0 where
  pub consistent : IsConsistent book kept ports (merged book.opening recent earlier) cells count
  pub bounded : AreBounded book.opening (next_number book) recent end
  pub none_before : NoneBefore book.held moment
