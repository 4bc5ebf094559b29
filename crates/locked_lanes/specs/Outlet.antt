-- The outlet of a lane (own): the responses that were added to its ring, beside the book of the lane.
use Rattle.std.specs.Prelude.{◌≡◌, ℕ, ◌+◌, List, length, slice_get, All, Option, Some, None, MatchOption}
use Rattle.rad_lane.specs.declared.outgoing.Outgoing.{Outgoing}
use Rattle.rad_lane.specs.Outgoing.{InOrder}
use Rattle.rad_lane.specs.Outstanding.{AnswerKept}
use Rattle.rad_lane.specs.Book.{Book}

-- How many responses there are up to the one of this serial, counted from serial 0. Without a serial there are none.
abbrev pub count_to : Option ℕ → ℕ
count_to None = 0
count_to (Some serial) = serial + 1

-- A response agrees with a kept answer: it goes to the same client and port, under the same request's Identifier, and
-- it is the same response, after the same reply to the same sending.
pub record Agrees (answer : AnswerKept) (outgoing : Outgoing) : Type 0 where
  pub client : outgoing.client ≡ answer.stamp.client
  pub port : outgoing.port ≡ answer.stamp.port
  pub identifier : outgoing.reply.head.identifier ≡ answer.stamp.identifier
  pub sending : outgoing.reply.sending ≡ answer.reply.sending
  pub reply : outgoing.reply.reply ≡ answer.reply.reply
  pub response : outgoing.reply.response ≡ answer.reply.response

-- There is a response at the place of the answer's serial, and it agrees with the answer.
abbrev pub AgreesAtItsSerial : List Outgoing → AnswerKept → Type 0
AgreesAtItsSerial given answer = MatchOption (slice_get given answer.serial) ⊥ (λ response. Agrees answer response)

pub record IsOutlet (book : Book) (given : List Outgoing) : Type 0 where
  -- Each answer that was served was added, in order.
  pub served : length given ≡ book.served
  pub in_order : InOrder given
  -- Each kept answer is the response that was added.
  pub agree : All (AgreesAtItsSerial given) book.answered
