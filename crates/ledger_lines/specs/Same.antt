-- Lines that say the same (own): each field of one is that field of the other. A text that a line borrows is the octets that it has, wherever
-- they lie.
use Rattle.std.specs.Prelude.{◌≡◌, ℕ, List, Option, Some, None, option_copied, Result, MatchResult, ⊤}
use Rattle.std.specs.List.{AllZip}
use Rattle.ledger_rules.specs.declared.entry.Entry.{Entry}
use Rattle.ledger_rules.specs.declared.left.Left.{Left}
use Rattle.ledger_rules.specs.declared.line_request.LineRequest.{LineRequest}
use Rattle.ledger_rules.specs.declared.record_count.AnswerCount.{AnswerCount}
use Rattle.ledger_rules.specs.declared.record_count.RecordCount.{RecordCount}
use Rattle.ledger_rules.specs.declared.resumed.Resumed.{Resumed}
use Rattle.ledger_lines.specs.Lines.{Denies, IsLine}
use Rattle.ledger_lines.specs.declared.begin.Begin.{Begin}
use Rattle.ledger_lines.specs.declared.end.End.{End}
use Rattle.ledger_lines.specs.declared.begin.FileBefore.{FileBefore}
use Rattle.ledger_lines.specs.declared.lane_start.LaneStart.{LaneStart}
use Rattle.ledger_lines.specs.declared.faults.LineFault.{LineFault}
use Rattle.ledger_lines.specs.declared.faults.LineFault.TheVariants.{OutOfMemory}
use Rattle.ledger_lines.specs.declared.reading.Line.{Line}
use Rattle.ledger_lines.specs.declared.reading.SummedLine.{SummedLine}
use Rattle.ledger_lines.specs.declared.reading.Line.TheVariants.{Begin as begins, Entry as enters, Left as leaves, Unsent as unsends, Again as repeats, AgainEarlier as recalls, Resumed as resumes, End as ends, Hidden as hides}

pub record IsSameRequest (one another : LineRequest) : Type 0 where
  pub run : one.run ≡ another.run
  pub time : one.time.now ≡ another.time.now
  pub home : one.home.now ≡ another.home.now
  pub lane : one.lane ≡ another.lane
  pub number : one.number ≡ another.number
  pub client : one.client ≡ another.client
  pub port : one.port ≡ another.port
  pub identifier : one.identifier ≡ another.identifier
  pub authenticator : one.authenticator ≡ another.authenticator
  pub realm : option_copied one.realm ≡ option_copied another.realm
  pub session : option_copied one.session ≡ option_copied another.session
  pub status : one.status ≡ another.status
  pub user : option_copied one.user ≡ option_copied another.user

pub record IsSameEntry (one another : Entry) : Type 0 where
  pub about : IsSameRequest one.about another.about
  pub serial : one.serial ≡ another.serial
  pub sent : one.sent.now ≡ another.sent.now
  pub reply : one.reply.now ≡ another.reply.now
  pub response : one.response.now ≡ another.response.now
  pub accepted : option_copied one.accepted ≡ option_copied another.accepted
  pub sendings : one.sendings ≡ another.sendings

pub record IsSameLeft (one another : Left) : Type 0 where
  pub about : IsSameRequest one.about another.about
  pub state : one.state ≡ another.state
  pub sendings : one.sendings ≡ another.sendings
  pub accepted : option_copied one.accepted ≡ option_copied another.accepted
  pub request : one.request.now ≡ another.request.now
  pub kept : one.kept ≡ another.kept

pub record IsSameStart (one another : LaneStart) : Type 0 where
  pub lane : one.lane ≡ another.lane
  pub home : one.home.now ≡ another.home.now
  pub serial : one.serial ≡ another.serial

pub record IsSameFile (one another : FileBefore) : Type 0 where
  pub name : one.name.now ≡ another.name.now
  pub sum : one.sum ≡ another.sum

abbrev pub IsSameFileIfAny : Option FileBefore → Option FileBefore → Type 0
IsSameFileIfAny None None = ⊤
IsSameFileIfAny None (Some another) = ⊥
IsSameFileIfAny (Some one) None = ⊥
IsSameFileIfAny (Some one) (Some another) = IsSameFile one another

pub record IsSameBegin (one another : Begin) : Type 0 where
  pub run : one.run ≡ another.run
  pub time : one.time.now ≡ another.time.now
  pub version : one.version.now ≡ another.version.now
  pub file : one.file ≡ another.file
  pub before : IsSameFileIfAny one.before another.before
  pub lanes : AllZip IsSameStart one.lanes.items another.lanes.items
  pub hidden : one.hidden ≡ another.hidden

pub record IsSameEnd (one another : End) : Type 0 where
  pub run : one.run ≡ another.run
  pub time : one.time.now ≡ another.time.now
  pub lanes : one.lanes.items ≡ another.lanes.items
  pub hidden : one.hidden ≡ another.hidden

pub record IsSameCount (one another : RecordCount) : Type 0 where
  pub run : one.run ≡ another.run
  pub time : one.time.now ≡ another.time.now
  pub home : one.home.now ≡ another.home.now
  pub lane : one.lane ≡ another.lane
  pub number : one.number ≡ another.number
  pub count : one.count ≡ another.count

pub record IsSameAnswerCount (one another : AnswerCount) : Type 0 where
  pub run : one.run ≡ another.run
  pub time : one.time.now ≡ another.time.now
  pub home : one.home.now ≡ another.home.now
  pub lane : one.lane ≡ another.lane
  pub answer_run : one.answer_run ≡ another.answer_run
  pub answer_lane : one.answer_lane ≡ another.answer_lane
  pub answer_serial : one.answer_serial ≡ another.answer_serial
  pub count : one.count ≡ another.count

pub record IsSameResumed (one another : Resumed) : Type 0 where
  pub run : one.run ≡ another.run
  pub time : one.time.now ≡ another.time.now
  pub home : one.home.now ≡ another.home.now
  pub lane : one.lane ≡ another.lane
  pub number : one.number ≡ another.number
  pub first_run : one.first_run ≡ another.first_run
  pub first_lane : one.first_lane ≡ another.first_lane
  pub first_number : one.first_number ≡ another.first_number

-- Lines of two kinds never say the same.
abbrev pub IsSameLine : Line → Line → Type 0
IsSameLine (begins one) (begins another) = IsSameBegin one another
IsSameLine (enters one) (enters another) = IsSameEntry one another
IsSameLine (leaves one) (leaves another) = IsSameLeft one another
IsSameLine (unsends one) (unsends another) = IsSameCount one another
IsSameLine (repeats one) (repeats another) = IsSameCount one another
IsSameLine (recalls one) (recalls another) = IsSameAnswerCount one another
IsSameLine (resumes one) (resumes another) = IsSameResumed one another
IsSameLine (ends one) (ends another) = IsSameEnd one another
IsSameLine (hides one) (hides another) = one ≡ another
IsSameLine one another = ⊥

-- Lines with the same sum, or without one.
pub record IsSameSummed (one another : SummedLine) : Type 0 where
  pub line : IsSameLine one.line another.line
  pub sum : one.sum ≡ another.sum

-- What a reader answers of octets: a line that they are, or a fault that denies that they are one.
abbrev pub IsAnswer : List ℕ → Result SummedLine LineFault → Type 0
IsAnswer octets answer = MatchResult answer (λ line. IsLine octets line) (λ fault. Denies fault ((line : SummedLine) × IsLine octets line))

-- This line again, unless memory was refused.
abbrev pub GivesBack : Result SummedLine LineFault → SummedLine → Type 0
GivesBack answer line = MatchResult answer (λ its. IsSameSummed its line) (λ fault. fault ≡ OutOfMemory)
