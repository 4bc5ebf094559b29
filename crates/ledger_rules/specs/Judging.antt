-- What is wrong with an entry of a ledger (own). Each reason holds where those before it do not.
use Rattle.std.specs.Prelude.{◌≡◌, ◌<◌, ◌≤◌, ℕ, List, Option, Some, None, IfSome, MatchOption}
use Rattle.rad_packet.specs.Attribute.{joined}
use Rattle.rad_packet.specs.Packet.{IsPacketText, code_of, identifier_of}
use Rattle.rad_auth.specs.Answers.{Answers}
use Rattle.rad_auth.specs.Authenticator.{IsRequestOf, IsRightRequest, IsRightResponse}
use Rattle.rad_auth.specs.Mark.{EndsWithMark}
use Rattle.rad_auth.specs.declared.mark.Mark.{Mark}
use Rattle.rad_auth.specs.declared.reply.RequestHead.{RequestHead}
use Rattle.ledger_rules.specs.declared.entry.Entry.{Entry}
use Rattle.ledger_rules.specs.declared.reason.Reason.{Reason}
use Rattle.ledger_rules.specs.declared.reason.Reason.TheVariants.{NotEntry, NoPacket, WrongSent, WrongRequest, WrongReply, WrongResponse, SerialNotAbove, UnknownLane, RecordTwice, UnknownRecord, WrongWords, FileAgain, OtherLanes, WrongSum}

-- The head of the request, and the mark that it went out with.
abbrev pub head_of : Entry → RequestHead
head_of e = record { identifier = e.about.identifier; authenticator = e.about.authenticator }

abbrev pub mark_of : Entry → Mark
mark_of e = record { lane = e.about.lane; number = e.about.number }

-- What went to the home server, what came, and what went to the client are packets, whole and without padding.
pub record ArePackets (e : Entry) : Type 0 where
  pub sent : IsPacketText e.sent.now
  pub reply : IsPacketText e.reply.now
  pub response : IsPacketText e.response.now

-- A packet is an Accounting-Request, right under the home server's secret, and ends with this mark. Each forwarded packet of that
-- mark and secret is such a packet.
pub record IsSent (home : List ℕ) (mark : Mark) (sent : List ℕ) : Type 0 where
  pub code : code_of sent ≡ 4
  pub right : IsRightRequest home sent
  pub marked : EndsWithMark mark sent

-- What was sent has these attributes and this mark behind them, and the request with these attributes is right under the client's
-- secret: an Accounting-Request with the Identifier and the Authenticator of this head.
pub record IsRequest (client : List ℕ) (head : RequestHead) (mark : Mark) (sent : List ℕ) : Type 0 where
  pub marked : EndsWithMark mark sent
  pub right : IsRequestOf head.identifier head.authenticator (joined marked.before) client

-- A reply is right for what was sent: after it some response answers some request.
pub record IsReply (home sent reply : List ℕ) : Type 0 where
  pub head : RequestHead
  pub client : List ℕ
  pub response : List ℕ
  pub answers : Answers head sent reply client home response

-- A response is an Accounting-Response with the Identifier of this head, and right under the client's secret for its Authenticator.
pub record IsResponse (client : List ℕ) (head : RequestHead) (response : List ℕ) : Type 0 where
  pub code : code_of response ≡ 5
  pub identifier : identifier_of response ≡ head.identifier
  pub right : IsRightResponse client head.authenticator response

-- The same of an entry, where the secret is known.
abbrev pub HasSent : Option (List ℕ) → Entry → Type 0
HasSent home e = IfSome home (λ secret. IsSent secret (mark_of e) e.sent.now)

abbrev pub HasRequest : Option (List ℕ) → Entry → Type 0
HasRequest client e = IfSome client (λ secret. IsRequest secret (head_of e) (mark_of e) e.sent.now)

abbrev pub HasReply : Option (List ℕ) → Entry → Type 0
HasReply home e = IfSome home (λ secret. IsReply secret e.sent.now e.reply.now)

-- Its response answers its own request, after its reply to what was sent. Where the home server's secret is not known, it is a
-- response to its own request.
abbrev pub HasResponse : Option (List ℕ) → Option (List ℕ) → Entry → Type 0
HasResponse home client e =
    IfSome client (λ its. MatchOption home (IsResponse its (head_of e) e.response.now) (λ secret. Answers (head_of e) e.sent.now e.reply.now its secret e.response.now))

-- Nothing is wrong with the packets. What a secret is needed for is judged where it is known.
pub record ArePacketsRight (e : Entry) (home client : Option (List ℕ)) : Type 0 where
  pub packets : ArePackets e
  pub sent : HasSent home e
  pub request : HasRequest client e
  pub reply : HasReply home e
  pub response : HasResponse home client e

-- The first thing that is wrong with the packets.
abbrev pub IsWrongPacket : Entry → Option (List ℕ) → Option (List ℕ) → Reason → Type 0
IsWrongPacket e home client NotEntry = ⊥
IsWrongPacket e home client NoPacket = ¬ ArePackets e
IsWrongPacket e home client WrongSent = ArePackets e × ¬ HasSent home e
IsWrongPacket e home client WrongRequest = ArePackets e × HasSent home e × ¬ HasRequest client e
IsWrongPacket e home client WrongReply = ArePackets e × HasSent home e × HasRequest client e × ¬ HasReply home e
IsWrongPacket e home client WrongResponse =
    ArePackets e × HasSent home e × HasRequest client e × HasReply home e × ¬ HasResponse home client e
IsWrongPacket e home client SerialNotAbove = ⊥
IsWrongPacket e home client UnknownLane = ⊥
IsWrongPacket e home client RecordTwice = ⊥
IsWrongPacket e home client UnknownRecord = ⊥
IsWrongPacket e home client WrongWords = ⊥
IsWrongPacket e home client FileAgain = ⊥
IsWrongPacket e home client OtherLanes = ⊥
IsWrongPacket e home client WrongSum = ⊥

-- Of a lane whose next serial is at least this one, where the run names the lane.
abbrev pub IsInPlace : ℕ → Option ℕ → Type 0
IsInPlace serial next = MatchOption next ⊥ (λ least. least ≤ serial)

-- The first thing that is wrong with an entry, where it is one. Its number is that of another line where it is there twice.
abbrev pub IsWrong : Entry → Option (List ℕ) → Option (List ℕ) → Option ℕ → Type 0 → Reason → Type 0
IsWrong e home client next Twice NotEntry = ⊥
IsWrong e home client next Twice NoPacket = IsWrongPacket e home client NoPacket
IsWrong e home client next Twice WrongSent = IsWrongPacket e home client WrongSent
IsWrong e home client next Twice WrongRequest = IsWrongPacket e home client WrongRequest
IsWrong e home client next Twice WrongReply = IsWrongPacket e home client WrongReply
IsWrong e home client next Twice WrongResponse = IsWrongPacket e home client WrongResponse
IsWrong e home client next Twice SerialNotAbove = ArePacketsRight e home client × MatchOption next ⊥ (λ least. e.serial < least)
IsWrong e home client next Twice UnknownLane = ArePacketsRight e home client × (next ≡ None)
IsWrong e home client next Twice RecordTwice = ArePacketsRight e home client × IsInPlace e.serial next × Twice
IsWrong e home client next Twice UnknownRecord = ⊥
IsWrong e home client next Twice WrongWords = ⊥
IsWrong e home client next Twice FileAgain = ⊥
IsWrong e home client next Twice OtherLanes = ⊥
IsWrong e home client next Twice WrongSum = ⊥

-- What is wrong first with a reply to what was sent or with a response to the request of this head, where nothing is wrong with what
-- was sent.
abbrev pub JudgesReply : List ℕ → Option (List ℕ) → RequestHead → List ℕ → List ℕ → List ℕ → Option Reason → Type 0
JudgesReply home client head sent reply response None =
    IsReply home sent reply × IfSome client (λ its. Answers head sent reply its home response)
JudgesReply home client head sent reply response (Some NotEntry) = ⊥
JudgesReply home client head sent reply response (Some NoPacket) = ⊥
JudgesReply home client head sent reply response (Some WrongSent) = ⊥
JudgesReply home client head sent reply response (Some WrongRequest) = ⊥
JudgesReply home client head sent reply response (Some WrongReply) = ¬ IsReply home sent reply
JudgesReply home client head sent reply response (Some WrongResponse) =
    IsReply home sent reply × ¬ IfSome client (λ its. Answers head sent reply its home response)
JudgesReply home client head sent reply response (Some SerialNotAbove) = ⊥
JudgesReply home client head sent reply response (Some UnknownLane) = ⊥
JudgesReply home client head sent reply response (Some RecordTwice) = ⊥
JudgesReply home client head sent reply response (Some UnknownRecord) = ⊥
JudgesReply home client head sent reply response (Some WrongWords) = ⊥
JudgesReply home client head sent reply response (Some FileAgain) = ⊥
JudgesReply home client head sent reply response (Some OtherLanes) = ⊥
JudgesReply home client head sent reply response (Some WrongSum) = ⊥
