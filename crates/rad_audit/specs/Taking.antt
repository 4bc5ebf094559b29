-- What becomes of an entry, or of a request that was left, of a lane that its run names (own).
use Rattle.std.specs.Prelude.{◌≡◌, ◌≤◌, ◌+◌, ◌-◌, ◌^◌, min, ℕ, List, [], ◌∷◌, ◌++◌, Option, Some, None, option_copied, ⊤}
use Rattle.rad_config.specs.Realm.{realm_of_packet}
use Rattle.rad_lane.specs.Session.{session_id}
use Rattle.ledger_rules.specs.Judging.{ArePacketsRight, IsInPlace, IsWrong}
use Rattle.ledger_rules.specs.Leaving.{IsRightlyLeft, IsWronglyLeft}
use Rattle.ledger_rules.specs.Counting.{Counts, LeavesGap}
use Rattle.ledger_rules.specs.Numbers.{IsAsBefore, IsKnown, IsKnownAbsent, Keeps}
use Rattle.ledger_rules.specs.declared.account.Account.{Account}
use Rattle.ledger_rules.specs.declared.entry.Entry.{Entry}
use Rattle.ledger_rules.specs.declared.left.Left.{Left}
use Rattle.ledger_rules.specs.declared.line_request.LineRequest.{LineRequest}
use Rattle.ledger_rules.specs.declared.reason.Reason.{Reason}
use Rattle.ledger_rules.specs.declared.reason.Reason.TheVariants.{NotEntry, NoPacket, WrongSent, WrongRequest, WrongReply, WrongResponse, SerialNotAbove, UnknownLane, RecordTwice, UnknownRecord, WrongWords, FileAgain, OtherLanes, WrongSum}
use Rattle.ledger_rules.specs.declared.tally.Gap.{Gap}
use Rattle.ledger_rules.specs.declared.tally.Tally.{Tally}
use Rattle.ledger_lines.specs.declared.hidden.HiddenKind.{HiddenKind}
use Rattle.ledger_lines.specs.declared.hidden.HiddenKind.TheVariants.{Entry as AnEntry, Left as ALeft, Unsent as AnUnsent, Again as AnAgain, Resumed as AResumed}
use Rattle.rad_audit.specs.declared.hidden.HiddenLines.{HiddenLines}
use Rattle.rad_audit.specs.Facts.{number_at, value_at}
use Rattle.rad_audit.specs.declared.wording.LineWords.{LineWords}
use Rattle.rad_audit.specs.declared.taking.TakenEntry.{TakenEntry}
use Rattle.rad_audit.specs.declared.taking.TakenEntry.TheVariants.{Wrong, Counted}

-- The number was not known to be that of another line, and now it is one of the lane's numbers.
pub record CountsNumber (old new : Account) (number : ℕ) : Type 0 where
  pub fresh : ¬ IsKnown old.numbers number
  pub keeps : (numbers : List ℕ) → Keeps old.numbers numbers → Keeps new.numbers (numbers ++ number ∷ [])
  pub told : new.told ≡ old.told

-- Nothing is counted.
pub record IsUnchanged (old new : Account) : Type 0 where
  pub numbers : IsAsBefore old.numbers new.numbers
  pub left : new.left ≡ old.left
  pub told : new.told ≡ old.told

-- The words of a line are those of its packet.
pub record HasItsWords (packet : List ℕ) (words : LineWords) : Type 0 where
  pub realm : option_copied words.realm ≡ realm_of_packet packet
  pub session : option_copied words.session ≡ session_id packet
  pub user : option_copied words.user ≡ value_at 1 packet
  pub status : words.status ≡ number_at 40 packet

abbrev pub words_of : LineRequest → LineWords
words_of about = record { realm = about.realm; session = about.session; user = about.user; status = about.status }

-- A line more that is left out.
abbrev pub with_hidden : HiddenKind → HiddenLines → HiddenLines
with_hidden AnEntry lines = record lines { entries = min (lines.entries + 1) (2 ^ 64 - 1) }
with_hidden ALeft lines = record lines { left = min (lines.left + 1) (2 ^ 64 - 1) }
with_hidden AnUnsent lines = lines
with_hidden AnAgain lines = lines
with_hidden AResumed lines = lines

-- No line of the lane has this number, as far as that is known, and no response of the lane is missing so far.
abbrev pub LacksRecord : Tally → Account → ℕ → Type 0
LacksRecord tally account number = IsKnownAbsent account.numbers number × (tally.entries ≡ tally.next)

-- Nothing is wrong with it, and it is one more of the lane's entries, behind this gap if there is one.
pub record IsCounted (e : Entry) (home client : Option (List ℕ)) (old : Tally) (was : Account) (gap : Option Gap) (new : Tally) (is : Account) : Type 0 where
  pub right : ArePacketsRight e home client
  pub words : HasItsWords e.sent.now (words_of e.about)
  pub in_place : old.next ≤ e.serial
  pub leaves : LeavesGap old.next e.serial gap
  pub counts : (serials : List ℕ) → Counts old serials → Counts new (serials ++ e.serial ∷ [])
  pub first : new.first ≡ old.first
  pub end : new.end ≡ old.end
  pub number : CountsNumber was is e.about.number
  pub left : is.left ≡ was.left

-- Nothing is wrong with it behind those of its lane.
pub record IsRightInPlace (e : Entry) (home client : Option (List ℕ)) (old : Tally) (was : Account) : Type 0 where
  pub right : ArePacketsRight e home client
  pub words : HasItsWords e.sent.now (words_of e.about)
  pub in_place : old.next ≤ e.serial
  pub fresh : ¬ IsKnown was.numbers e.about.number

-- What is wrong with it: its words last.
abbrev pub IsWrongEntry : Entry → Option (List ℕ) → Option (List ℕ) → Tally → Account → Reason → Type 0
IsWrongEntry e home client old was NotEntry = ⊥
IsWrongEntry e home client old was NoPacket = IsWrong e home client (Some old.next) (IsKnown was.numbers e.about.number) NoPacket
IsWrongEntry e home client old was WrongSent = IsWrong e home client (Some old.next) (IsKnown was.numbers e.about.number) WrongSent
IsWrongEntry e home client old was WrongRequest = IsWrong e home client (Some old.next) (IsKnown was.numbers e.about.number) WrongRequest
IsWrongEntry e home client old was WrongReply = IsWrong e home client (Some old.next) (IsKnown was.numbers e.about.number) WrongReply
IsWrongEntry e home client old was WrongResponse = IsWrong e home client (Some old.next) (IsKnown was.numbers e.about.number) WrongResponse
IsWrongEntry e home client old was SerialNotAbove = IsWrong e home client (Some old.next) (IsKnown was.numbers e.about.number) SerialNotAbove
IsWrongEntry e home client old was UnknownLane = ⊥
IsWrongEntry e home client old was RecordTwice = IsWrong e home client (Some old.next) (IsKnown was.numbers e.about.number) RecordTwice
IsWrongEntry e home client old was UnknownRecord = ⊥
IsWrongEntry e home client old was WrongWords =
    ArePacketsRight e home client × IsInPlace e.serial (Some old.next) × (¬ IsKnown was.numbers e.about.number) × ¬ HasItsWords e.sent.now (words_of e.about)
IsWrongEntry e home client old was FileAgain = ⊥
IsWrongEntry e home client old was OtherLanes = ⊥
IsWrongEntry e home client old was WrongSum = ⊥

abbrev pub Takes : Entry → Option (List ℕ) → Option (List ℕ) → Tally → Account → TakenEntry → Tally → Account → Type 0
Takes e home client old was (Wrong reason) new is = IsWrongEntry e home client old was reason × (new ≡ old) × IsUnchanged was is
Takes e home client old was (Counted gap) new is = IsCounted e home client old was gap new is

-- Nothing is wrong with it, and it is one more of the lane's requests that were left.
pub record IsCountedLeft (left : Left) (client : Option (List ℕ)) (was is : Account) : Type 0 where
  pub right : IsRightlyLeft left client ⊤ (IsKnown was.numbers left.about.number)
  pub words : HasItsWords left.request.now (words_of left.about)
  pub number : CountsNumber was is left.about.number
  pub more : is.left ≡ min (was.left + 1) (2 ^ 64 - 1)

-- What is wrong with it: its words last.
abbrev pub IsWrongLeft : Left → Option (List ℕ) → Account → Reason → Type 0
IsWrongLeft left client was NotEntry = ⊥
IsWrongLeft left client was NoPacket = IsWronglyLeft left client ⊤ (IsKnown was.numbers left.about.number) NoPacket
IsWrongLeft left client was WrongSent = IsWronglyLeft left client ⊤ (IsKnown was.numbers left.about.number) WrongSent
IsWrongLeft left client was WrongRequest = ⊥
IsWrongLeft left client was WrongReply = ⊥
IsWrongLeft left client was WrongResponse = ⊥
IsWrongLeft left client was SerialNotAbove = ⊥
IsWrongLeft left client was UnknownLane = ⊥
IsWrongLeft left client was RecordTwice = IsWronglyLeft left client ⊤ (IsKnown was.numbers left.about.number) RecordTwice
IsWrongLeft left client was UnknownRecord = ⊥
IsWrongLeft left client was WrongWords = IsRightlyLeft left client ⊤ (IsKnown was.numbers left.about.number) × ¬ HasItsWords left.request.now (words_of left.about)
IsWrongLeft left client was FileAgain = ⊥
IsWrongLeft left client was OtherLanes = ⊥
IsWrongLeft left client was WrongSum = ⊥

abbrev pub Leaves : Left → Option (List ℕ) → Account → Option Reason → Account → Type 0
Leaves left client was None is = IsCountedLeft left client was is
Leaves left client was (Some reason) is = IsWrongLeft left client was reason × IsUnchanged was is
