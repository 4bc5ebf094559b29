-- Which requests a turn removes from the front of a book, since they were answered at least a span ago, the volume that
-- then has them, and the book after it (own). So the book does not grow without end.
use Rattle.std.specs.Prelude.{◌≡◌, ⊤, ℕ, ◌+◌, ◌≤◌, List, [], ◌∷◌, ◌++◌, length, drop, filter, All, Bool, not, nat_lt, Some, Result, Ok, Err}
use Rattle.rad_lane.specs.declared.stamp.Stamp.{Stamp}
use Rattle.rad_lane.specs.declared.turning.Volume.{Volume}
use Rattle.rad_lane.specs.declared.turning.TurnFault.{TurnFault}
use Rattle.rad_lane.specs.declared.turning.TurnFault.TheVariants.{NothingToTurn, OutOfMemory}
use Rattle.rad_lane.specs.Outstanding.{AnswerKept}
use Rattle.rad_lane.specs.Book.{Book, moment_in}
use Rattle.rad_lane.specs.Repeat.{answer_to}

-- A request is over if it was answered at least a span ago: from then on nothing repeats it.
abbrev pub IsOver : Book → ℕ → Stamp → Type 0
IsOver book now stamp =
    (answer : AnswerKept) × (answer_to stamp.number book.answered ≡ Some answer) × (answer.moment + book.setup.limits.span ≤ now)

-- There are no requests, or the first of them is not over.
abbrev pub BeginsUnended : Book → ℕ → List Stamp → Type 0
BeginsUnended book now [] = ⊤
BeginsUnended book now (next ∷ later) = ¬ IsOver book now next

-- The cut is the longest prefix of the book's requests that are all over. The kept requests follow it.
pub record IsCut (book : Book) (now : ℕ) (cut kept : List Stamp) : Type 0 where
  pub parts : book.accepted ≡ cut ++ kept
  pub over : All (IsOver book now) cut
  pub longest : BeginsUnended book now kept

-- The number of the first request after the cut.
abbrev pub opening_after : Book → List Stamp → ℕ
opening_after book cut = book.opening + length cut

-- Whether an answer is to a request below a number; the answers that are, and those that are not, each in order.
abbrev pub is_below : ℕ → AnswerKept → Bool
is_below number answer = nat_lt answer.stamp.number number

abbrev pub answers_below : ℕ → List AnswerKept → List AnswerKept
answers_below number answered = filter (is_below number) answered

abbrev pub answers_since : ℕ → List AnswerKept → List AnswerKept
answers_since number answered = filter (λ answer. not (is_below number answer)) answered

-- A volume has the requests of the cut with their answers, and the number of the first request.
abbrev pub volume_of : Book → List Stamp → Volume
volume_of book cut = record {
  opening = book.opening;
  stamps = cut;
  answered = answers_below (opening_after book cut) book.answered;
  cleared = tt;
}

-- The book without the cut.
abbrev pub without_cut : Book → ℕ → List Stamp → List Stamp → Book
without_cut book now cut kept = record book {
  opening = opening_after book cut;
  accepted = kept;
  sent = drop (length cut) book.sent;
  answered = answers_since (opening_after book cut) book.answered;
  last = now;
}

-- The results that a turn may have, and the book after it. Lack of memory is the only free choice. A refusal leaves
-- the book unchanged.
abbrev pub Turns : Book → ℕ → Result Volume TurnFault → Book → Type 0
Turns old moment (Ok volume) new =
    let now = moment_in old moment in
    (cut : List Stamp) × (kept : List Stamp) × IsCut old now cut kept × (1 ≤ length cut)
    × (volume ≡ volume_of old cut) × (new ≡ without_cut old now cut kept)
Turns old moment (Err NothingToTurn) new = BeginsUnended old (moment_in old moment) old.accepted × (new ≡ old)
Turns old moment (Err OutOfMemory) new =
    (cut : List Stamp) × (kept : List Stamp) × IsCut old (moment_in old moment) cut kept × (1 ≤ length cut) × (new ≡ old)
