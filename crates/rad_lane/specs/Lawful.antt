-- The lawful book (own): what operators who bill by a book can rely on, whatever arrived and in whatever order.
use Rattle.std.specs.Prelude.{◌≡◌, ℕ, ◌+◌, ◌<◌, ◌≤◌, List, ◌++◌, length, map as each, All, AllPairs, Some, None, IfSome}
use Rattle.std.specs.List.{range_with_len}
use Rattle.std.specs.List.Sorted.{IsPermutation, IsStrictlyIncreasing}
use Rattle.std.specs.FinMap as map
use Rattle.rad_auth.specs.Status.{status_server}
use Rattle.rad_tables.specs.declared.slots.Slot.{Slot}
use Rattle.rad_tables.specs.Pairs.{slot_cmp, IsInRange}
use Rattle.rad_lane.specs.declared.stamp.Stamp.{Stamp}
use Rattle.rad_lane.specs.Stamp.{IsRecord, key_of}
use Rattle.rad_lane.specs.Setup.{LaneSetup, IsOfItsRealms}
use Rattle.rad_lane.specs.Outstanding.{Outstanding, AnswerKept, IsAnswered, octets_of}
use Rattle.rad_lane.specs.declared.entry.Entry.{Entry}
use Rattle.rad_lane.specs.declared.entry.Entry.TheVariants.{Sending as sending, Probe as probe}
use Rattle.rad_lane.specs.declared.watch.Watch.{Watch}
use Rattle.rad_lane.specs.declared.watch.Watch.TheVariants.{Up as up, Down as down}
use Rattle.rad_lane.specs.Book.{Book, next_number, outstanding_at, outstanding_of, outstanding_count}
use Rattle.rad_lane.specs.Repeat.{answer_to}

-- If two requests have one key, then the earlier one was answered, and the later one was accepted at least a span
-- after that answer.
abbrev pub NoRepeatWithinSpan : Book → Stamp → Stamp → Type 0
NoRepeatWithinSpan book earlier later =
    key_of earlier ≡ key_of later
    → (answer : AnswerKept) × (answer_to earlier.number book.answered ≡ Some answer) × (answer.moment + book.setup.limits.span ≤ later.moment)

-- The request of the sending under a pair is a record, and the octets are its forwarded packet with the pair's
-- Identifier.
pub record ForwardsItsRecord (setup : LaneSetup) (slot : Slot) (entry : Outstanding) : Type 0 where
  pub is_record : IsRecord entry.request
  pub octets : entry.octets ≡ octets_of setup entry.request slot.identifier

-- A kept answer answers its own request, after a verified reply to the packet that this lane forwarded, under its
-- home server's secret. It was given no later than now, and its serial is below the number of answers given.
pub record IsVerified (setup : LaneSetup) (now served : ℕ) (answer : AnswerKept) : Type 0 where
  pub answered : IsAnswered answer
  pub lane : answered.lane ≡ setup.lane
  pub home : answer.reply.home ≡ setup.home_secret
  pub until : answer.moment ≤ now
  pub before : answer.serial < served

-- If a probe is outstanding, it is under its pair; there is no other probe, and none while the home server is marked
-- up.
abbrev pub ProbeStands : Book → Watch → Type 0
ProbeStands book up = (slot : Slot) (octets : List ℕ) → map.get book.held slot ≡ Some (probe octets) → ⊥
ProbeStands book (down until next None) = (slot : Slot) (octets : List ℕ) → map.get book.held slot ≡ Some (probe octets) → ⊥
ProbeStands book (down until next (Some out)) =
    ((octets : List ℕ) × (map.get book.held out ≡ Some (probe octets)))
    × ((slot : Slot) (octets : List ℕ) → map.get book.held slot ≡ Some (probe octets) → slot ≡ out)

-- The octets are a Status-Server with the Identifier of its pair, valid under the home server's secret, with some
-- sixteen octets as the Authenticator.
pub record IsProbe (setup : LaneSetup) (slot : Slot) (octets : List ℕ) : Type 0 where
  pub random : List ℕ
  pub sixteen : length random ≡ 16
  pub made : octets ≡ status_server slot.identifier random setup.home_secret

-- A sending has the home server's secret and the lane's number of sendings in a round. A probe is a Status-Server
-- under that secret.
abbrev pub IsTheLanes : LaneSetup → Slot → Entry → Type 0
IsTheLanes setup slot (sending entry) = (entry.home ≡ setup.home_secret) × (entry.tries ≡ setup.limits.tries)
IsTheLanes setup slot (probe octets) = IsProbe setup slot octets

-- Each pair in use is one of the lane's source ports, and what is outstanding under it is the lane's own.
abbrev pub HoldsItsOwn : LaneSetup → map.FinMap slot_cmp Entry → Type 0
HoldsItsOwn setup held = (slot : Slot) (entry : Entry) → map.get held slot ≡ Some entry → IsInRange setup.ports slot × IsTheLanes setup slot entry

pub record IsLawful (book : Book) : Type 0 where
  -- The requests accepted are those sent, followed by those queued, in order.
  pub in_order : book.accepted ≡ book.sent ++ each (λ r. r.stamp) book.queued
  -- They are numbered one by one from the opening on. Their moments never go back, and none is after the last moment.
  pub numbered : each (λ s. s.number) book.accepted ≡ range_with_len book.opening (length book.accepted)
  pub timed : AllPairs (λ s t. s.moment ≤ t.moment) book.accepted
  pub passed : All (λ s. s.moment ≤ book.last) book.accepted
  -- No request is accepted again within its span.
  pub no_repeat : AllPairs (NoRepeatWithinSpan book) book.accepted
  -- Each request that was sent is outstanding once or answered once, not both, and there are no other sendings and
  -- answers.
  pub placed_once : IsPermutation book.sent (each (λ e. e.request.stamp) (outstanding_of book) ++ each (λ a. a.stamp) book.answered)
  -- Each queued request is a record, and each queued, outstanding or answered request is of the lane's realms.
  pub of_its_realms : All (λ r. IsRecord r × IsOfItsRealms book.setup r.text) book.queued
  pub outstanding_realms : (slot : Slot) (entry : Outstanding) → outstanding_at book slot entry → IsOfItsRealms book.setup entry.octets
  pub answered_realms : All (λ a. IsOfItsRealms book.setup a.reply.sending) book.answered
  -- The octets sent are the forwarded packet of a record that does not change.
  pub forwards_its_record : (slot : Slot) (entry : Outstanding) → outstanding_at book slot entry → ForwardsItsRecord book.setup slot entry
  -- The probe is under its own pair. The queue, the outstanding requests and the book are within their limits.
  pub probe_apart : ProbeStands book book.watch
  pub queued_bounded : length book.queued ≤ book.setup.limits.queue
  pub outstanding_bounded : outstanding_count book ≤ book.setup.limits.window
  pub accepted_bounded : length book.accepted ≤ book.setup.limits.book
  -- What is outstanding under a pair is the lane's own. The pairs, also the one last allotted, are those of its 1 to
  -- 4 source ports.
  pub holds_its_own : HoldsItsOwn book.setup book.held
  pub allotted_in_range : IfSome book.allotted (IsInRange book.setup.ports)
  pub ports_least : 1 ≤ book.setup.ports
  pub ports_most : book.setup.ports ≤ 4
  -- Each response answers its own request, after a verified reply. The serials of the answers rise. The number of
  -- answers given in all is the opening plus the number of answers kept.
  pub answers_verified : All (IsVerified book.setup book.last book.served) book.answered
  pub serials_rise : IsStrictlyIncreasing (each (λ a. a.serial) book.answered)
  pub served_count : book.served ≡ book.opening + length book.answered
  -- Nothing is accepted after a drain: the number of the next request is the count at the drain.
  pub drained_count : IfSome book.drain (λ count. next_number book ≡ count)
