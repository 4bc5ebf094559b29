-- Repeats of a request (RFC 2866 section 3, Identifier, for the client's address and port and the Identifier; the
-- Authenticator in the key, and the span, which begins at the answer, are own). A NAS that receives no answer
-- retransmits its request. So that it is billed once, the proxy must recognise that it is the same request.
use Rattle.std.specs.Prelude.{ℕ, ◌+◌, ◌==◌, List, [], ◌∷◌, filter, find, Option, Some, None, nat_lt, if◌then◌else◌}
use Rattle.std.specs.Ordering.{is_eq}
use Rattle.rad_tables.specs.declared.duplicates.Key.{Key}
use Rattle.rad_tables.specs.Keys.{key_cmp}
use Rattle.rad_lane.specs.declared.stamp.Stamp.{Stamp}
use Rattle.rad_lane.specs.Stamp.{key_of}
use Rattle.rad_lane.specs.Outstanding.{AnswerKept}
use Rattle.rad_lane.specs.declared.repeats.Repeat.{Repeat}
use Rattle.rad_lane.specs.declared.repeats.Repeat.TheVariants.{Fresh, Waits, Answered}
use Rattle.rad_lane.specs.Book.{Book}

-- The stamps with a key.
abbrev pub of_key : Key → List Stamp → List Stamp
of_key key stamps = filter (λ stamp. is_eq (key_cmp (key_of stamp) key)) stamps

abbrev pub last_of : List Stamp → Option Stamp
last_of [] = None
last_of (stamp ∷ []) = Some stamp
last_of (stamp ∷ next ∷ later) = last_of (next ∷ later)

-- The answer to the request of a number, if there is one.
abbrev pub answer_to : ℕ → List AnswerKept → Option AnswerKept
answer_to number answered = find (λ a. a.stamp.number == number) answered

-- A request is new, or repeats an unanswered request, or repeats one that was answered less than a span ago.
pub data Repeats : Type 0 where
  fresh : Repeats
  waits : ℕ → Repeats
  again : ℕ → List ℕ → Repeats

-- What is repeated if the last request of the key has this number, and this answer if it has one.
abbrev pub repeats_answered : Book → ℕ → ℕ → Option AnswerKept → Repeats
repeats_answered book now number None = waits number
repeats_answered book now number (Some a) = if nat_lt now (a.moment + book.setup.limits.span) then again number a.reply.response else fresh

abbrev pub repeats_last : Book → ℕ → Option Stamp → Repeats
repeats_last book now None = fresh
repeats_last book now (Some stamp) = repeats_answered book now stamp.number (answer_to stamp.number book.answered)

-- What a request of this key repeats at this moment: the last request of the key, if that is unanswered or was
-- answered less than a span ago.
unfoldable pub repeats : Book → Key → ℕ → Repeats
repeats book key now = repeats_last book now (last_of (of_key key book.accepted))

-- What a lane found, with the response of the answer.
abbrev pub found : Repeat → Repeats
found Fresh = fresh
found (Waits number) = waits number
found (Answered number answer) = again number answer.now.reply.response
