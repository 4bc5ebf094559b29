-- What becomes of each request that a lane accepts (own): it is queued, then outstanding, then answered by one response.
use Rattle.std.specs.Prelude.{◌≡◌, ℕ, ◌+◌, ◌-◌, ◌≤◌, ◌^◌, ◌==◌, List, length, drop, nat_lt, if◌then◌else◌}
use Rattle.std.specs.Int.{w64, from_be_bytes}
use Rattle.std.specs.List.{count_by}
use Rattle.rad_lane.specs.declared.outgoing.Outgoing.{Outgoing}
use Rattle.rad_lane.specs.Stamp.{Recorded}
use Rattle.rad_lane.specs.Outstanding.{Outstanding, AnswerKept, IsAnswered}
use Rattle.rad_lane.specs.Hears.{GoesOut}
use Rattle.rad_lane.specs.Book.{Book, next_number, outstanding_of}

-- The number of the request in the mark of a packet that was sent: its last eight octets.
abbrev pub marked_number : List ℕ → ℕ
marked_number sending = from_be_bytes w64 (drop (length sending - 8) sending)

-- How many queued records have this number, how many outstanding requests have it, and how many of the responses given
-- answer the request that has it.
abbrev pub queued_with : ℕ → List Recorded → ℕ
queued_with number queued = count_by (λ recorded. recorded.stamp.number == number) queued

abbrev pub outstanding_with : ℕ → List Outstanding → ℕ
outstanding_with number outstanding = count_by (λ entry. entry.request.stamp.number == number) outstanding

abbrev pub answered_with : ℕ → List Outgoing → ℕ
answered_with number given = count_by (λ response. marked_number response.reply.sending == number) given

-- Each number below that of the next request is had once: by a queued record, by an outstanding request, or by the
-- request that a response given answers. None of these has another number.
pub record AccountsForAll (book : Book) (given : List Outgoing) : Type 0 where
  pub once : (number : ℕ) → queued_with number book.queued + outstanding_with number (outstanding_of book) + answered_with number given ≡ (if nat_lt number (next_number book) then 1 else 0)
  -- Each number fits in a mark.
  pub fits : next_number book ≤ 2 ^ 62

-- The response answers a valid record, after a verified reply to the packet that was forwarded of it, and goes to the client
-- and port of that record.
pub record AnswersARecord (response : Outgoing) : Type 0 where
  pub answer : AnswerKept
  pub answered : IsAnswered answer
  pub goes_out : GoesOut answer response

-- A response may follow these in a ring: its serial is their number, none of them answers the same request, and it answers
-- a record.
pub record MayFollow (before : List Outgoing) (response : Outgoing) : Type 0 where
  pub serial : response.serial ≡ length before
  pub first : answered_with (marked_number response.reply.sending) before ≡ 0
  pub answers : AnswersARecord response

-- No two of these responses answer one request.
abbrev pub EachOnce : List Outgoing → Type 0
EachOnce responses = (number : ℕ) → answered_with number responses ≤ 1
