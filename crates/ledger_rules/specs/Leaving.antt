-- What is wrong with a request that was left (own). Each reason holds where those before it do not.
use Rattle.std.specs.Prelude.{◌≡◌, ℕ, List, Option, IfSome}
use Rattle.rad_packet.specs.Packet.{IsPacketText, authenticator_of, code_of, identifier_of}
use Rattle.rad_auth.specs.Authenticator.{IsRightRequest}
use Rattle.ledger_rules.specs.declared.left.Left.{Left}
use Rattle.ledger_rules.specs.declared.reason.Reason.{Reason}
use Rattle.ledger_rules.specs.declared.reason.Reason.TheVariants.{NotEntry, NoPacket, WrongSent, WrongRequest, WrongReply, WrongResponse, SerialNotAbove, UnknownLane, RecordTwice, UnknownRecord, WrongWords, FileAgain, OtherLanes, WrongSum}

-- Its packet is an Accounting-Request with this Identifier and this Authenticator, and right under the client's secret where that is
-- known. It is the request itself, so what is wrong with it is WrongSent, and never WrongRequest.
pub record HasRequest (left : Left) (client : Option (List ℕ)) : Type 0 where
  pub code : code_of left.request.now ≡ 4
  pub identifier : identifier_of left.request.now ≡ left.about.identifier
  pub authenticator : authenticator_of left.request.now ≡ left.about.authenticator
  pub right : IfSome client (λ secret. IsRightRequest secret left.request.now)

-- Nothing is wrong with it: its run names its lane, and no other line has its number.
pub record IsRightlyLeft (left : Left) (client : Option (List ℕ)) (Named Twice : Type 0) : Type 0 where
  pub packet : IsPacketText left.request.now
  pub request : HasRequest left client
  pub named : Named
  pub once : ¬ Twice

abbrev pub IsWronglyLeft : Left → Option (List ℕ) → Type 0 → Type 0 → Reason → Type 0
IsWronglyLeft left client Named Twice NotEntry = ⊥
IsWronglyLeft left client Named Twice NoPacket = ¬ IsPacketText left.request.now
IsWronglyLeft left client Named Twice WrongSent = IsPacketText left.request.now × ¬ HasRequest left client
IsWronglyLeft left client Named Twice WrongRequest = ⊥
IsWronglyLeft left client Named Twice WrongReply = ⊥
IsWronglyLeft left client Named Twice WrongResponse = ⊥
IsWronglyLeft left client Named Twice SerialNotAbove = ⊥
IsWronglyLeft left client Named Twice UnknownLane = IsPacketText left.request.now × HasRequest left client × ¬ Named
IsWronglyLeft left client Named Twice RecordTwice = IsPacketText left.request.now × HasRequest left client × Named × Twice
IsWronglyLeft left client Named Twice UnknownRecord = ⊥
IsWronglyLeft left client Named Twice WrongWords = ⊥
IsWronglyLeft left client Named Twice FileAgain = ⊥
IsWronglyLeft left client Named Twice OtherLanes = ⊥
IsWronglyLeft left client Named Twice WrongSum = ⊥
