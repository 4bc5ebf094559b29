-- A right reply to an outstanding request, and how it is heard (RFC 2866 section 3, RFC 2865 section 5.33, own).
use Rattle.std.specs.Prelude.{◌≡◌, ◌⊎◌, ℕ, List, [], ◌∷◌, Result, Ok, Err}
use Rattle.rad_packet.specs.Attribute.{of_kind}
use Rattle.rad_packet.specs.Packet.{code_of, authenticator_of, packet_attributes}
use Rattle.rad_packet.specs.Reading.{ReadsAs}
use Rattle.rad_auth.specs.Authenticator.{IsRightResponse}
use Rattle.rad_auth.specs.Refusing.{ReturnsItsMark}
use Rattle.rad_tables.specs.declared.slots.Slot.{Slot}
use Rattle.rad_lane.specs.declared.outgoing.Outgoing.{Outgoing}
use Rattle.rad_lane.specs.declared.hearing.Heard.{Heard}
use Rattle.rad_lane.specs.declared.hearing.Heard.TheVariants.{Answer, ProbeAnswered}
use Rattle.rad_lane.specs.declared.hearing.HearFault.{HearFault}
use Rattle.rad_lane.specs.declared.hearing.HearFault.TheVariants.{OutOfMemory}
use Rattle.rad_lane.specs.declared.running.GivenAnswer.{GivenAnswer}
use Rattle.rad_lane.specs.declared.running.GivenAnswer.TheVariants.{Hear as heard}
use Rattle.rad_lane.specs.declared.running.Given.{Given}
use Rattle.rad_lane.specs.Outstanding.{Outstanding}
use Rattle.rad_lane.specs.Book.{Book, outstanding_at}
use Rattle.rad_lane.specs.Hears.{pair}

-- A right reply to the octets that were sent under a pair: it arrives at the pair's source port and reads as an
-- Accounting-Response with the pair's Identifier. Its Response Authenticator is valid for these octets under the home
-- server's secret. It has no Message-Authenticator, and its last Proxy-State is the mark of these octets.
pub record IsRightReply (home : List ℕ) (slot : Slot) (octets : List ℕ) (port : ℕ) (datagram : List ℕ) : Type 0 where
  pub packet : List ℕ
  pub read : ReadsAs datagram packet
  pub code : code_of packet ≡ 5
  pub at : pair port packet ≡ slot
  pub right : IsRightResponse home (authenticator_of octets) packet
  pub unsigned : of_kind 80 (packet_attributes packet) ≡ []
  pub returned : ReturnsItsMark octets packet

-- The response is the answer to this request: it goes to the request's client and port, for the request's Identifier
-- and Authenticator, after a reply to its own octets.
pub record IsItsAnswer (entry : Outstanding) (outgoing : Outgoing) : Type 0 where
  pub client : outgoing.client ≡ entry.request.stamp.client
  pub port : outgoing.port ≡ entry.request.stamp.port
  pub identifier : outgoing.reply.head.identifier ≡ entry.request.stamp.identifier
  pub authenticator : outgoing.reply.head.authenticator ≡ entry.request.stamp.authenticator
  pub sending : outgoing.reply.sending ≡ entry.octets

-- The request is answered, or memory was refused.
abbrev pub IsAnsweredBy : Outstanding → Result Heard HearFault → Type 0
IsAnsweredBy entry (Ok (Answer outgoing)) = IsItsAnswer entry outgoing
IsAnsweredBy entry (Ok ProbeAnswered) = ⊥
IsAnsweredBy entry (Err fault) = fault ≡ OutOfMemory

-- The request is outstanding under the pair still, with the same octets.
pub record IsStillOutstanding (book : Book) (slot : Slot) (entry : Outstanding) : Type 0 where
  pub kept : Outstanding
  pub there : outstanding_at book slot kept
  pub request : kept.request ≡ entry.request
  pub octets : kept.octets ≡ entry.octets

-- The call answered the request; and one of these calls did.
pub record AnswersIt (entry : Outstanding) (answer : GivenAnswer) : Type 0 where
  pub outgoing : Outgoing
  pub is : answer ≡ heard (Ok (Answer outgoing))
  pub its : IsItsAnswer entry outgoing

abbrev pub IsAnsweredAmong : Outstanding → List Given → Type 0
IsAnsweredAmong entry [] = ⊥
IsAnsweredAmong entry (given ∷ gives) = AnswersIt entry given.answer ⊎ IsAnsweredAmong entry gives
