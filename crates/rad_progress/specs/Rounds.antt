-- Rounds of a lane whose home server answers (own).
use Rattle.std.specs.Prelude.{◌≡◌, ⊤, ℕ, zero, suc, ◌+◌, ◌-◌, ◌/◌, ◌≤◌, ◌⊎◌, ◌==◌, true, List, [], ◌∷◌, Err}
use Rattle.std.specs.List.{AllByRecursion, Contains, count_by}
use Rattle.rad_tables.specs.declared.slots.Slot.{Slot}
use Rattle.rad_lane.specs.declared.stamp.Stamp.{Stamp}
use Rattle.rad_lane.specs.declared.hearing.HearFault.TheVariants.{OutOfMemory}
use Rattle.rad_lane.specs.declared.running.Event.{Event}
use Rattle.rad_lane.specs.declared.running.Event.TheVariants.{Hear as hear}
use Rattle.rad_lane.specs.declared.running.GivenAnswer.{GivenAnswer}
use Rattle.rad_lane.specs.declared.running.GivenAnswer.TheVariants.{Hear as heard}
use Rattle.rad_lane.specs.Outstanding.{Outstanding, AnswerKept}
use Rattle.rad_lane.specs.Book.{Book, outstanding_at, outstanding_count}
use Rattle.rad_lane.specs.Watch.{is_up}
use Rattle.rad_progress.specs.Calls.{Calls, IsRequest, IsStepAt, IsDatagram, EndsIdle}
use Rattle.rad_progress.specs.Replies.{IsRightReply}

-- Memory was not refused.
abbrev pub IsGranted : GivenAnswer → Type 0
IsGranted (heard (Err OutOfMemory)) = ⊥
IsGranted answer = ⊤

-- Among these calls is one with a right reply to the octets that were sent under a pair.
abbrev pub IsReply : List ℕ → Slot → List ℕ → Event → Type 0
IsReply home slot octets (hear moment port datagram) = IsRightReply home slot octets port datagram.now
IsReply home slot octets event = ⊥

abbrev pub HasReply : List ℕ → Slot → List ℕ → List Event → Type 0
HasReply home slot octets [] = ⊥
HasReply home slot octets (event ∷ events) = IsReply home slot octets event ⊎ HasReply home slot octets events

-- A round: the lane is stepped at one moment until it is idle. Then the home server answers: the lane hears a right
-- reply to each request that is outstanding, in any order, and memory is granted. Any other datagrams may come too.
pub record IsRound (old new : Book) : Type 0 where
  pub moment : ℕ
  pub idle : Book
  pub steps : Calls old idle
  pub at_once : AllByRecursion (IsStepAt moment) steps.events
  pub until_idle : EndsIdle steps.gives
  pub hears : Calls idle new
  pub datagrams : AllByRecursion IsDatagram hears.events
  pub granted : AllByRecursion (λ given. IsGranted given.answer) hears.gives
  pub answers : (slot : Slot) (entry : Outstanding) → outstanding_at idle slot entry → HasReply idle.setup.home_secret slot entry.octets hears.events

-- A round before which requests come.
pub record IsRoundWithRequests (old new : Book) : Type 0 where
  pub opened : Book
  pub requests : Calls old opened
  pub each : AllByRecursion IsRequest requests.events
  pub round : IsRound opened new

-- So many rounds, one after the other.
abbrev pub Rounds : ℕ → Book → Book → Type 0
Rounds zero old new = new ≡ old
Rounds (suc n) old new = (next : Book) × IsRound old next × Rounds n next new

abbrev pub RoundsWithRequests : ℕ → Book → Book → Type 0
RoundsWithRequests zero old new = new ≡ old
RoundsWithRequests (suc n) old new = (next : Book) × IsRoundWithRequests old next × RoundsWithRequests n next new

-- The home server is marked up, or something is outstanding, to which it can reply.
abbrev pub CanGoOn : Book → Type 0
CanGoOn book = (is_up book.watch ≡ true) ⊎ (1 ≤ outstanding_count book)

-- Nothing is queued, and nothing is outstanding.
pub record IsServed (book : Book) : Type 0 where
  pub sent : book.queued ≡ []
  pub answered : outstanding_count book ≡ 0

-- The rounds that a queue takes at most: one, and one for each window of requests, rounded up.
abbrev pub rounds_for : ℕ → ℕ → ℕ
rounds_for queued window = 1 + (queued + window - 1) / window

-- The rounds after its own in which a request is answered at the latest, if so many are queued before it.
abbrev pub rounds_after : ℕ → ℕ → ℕ
rounds_after before window = 1 + before / window

-- The request of a stamp is answered, once.
pub record IsAnsweredOnce (book : Book) (stamp : Stamp) : Type 0 where
  pub answer : AnswerKept
  pub kept : Contains book.answered answer
  pub its : answer.stamp ≡ stamp
  pub once : count_by (λ a. a.stamp.number == stamp.number) book.answered ≡ 1
