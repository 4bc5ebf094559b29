-- The line that a parcel is, by its head and its packets.
use Rattle.std.specs.Prelude.{◌≡◌, ℕ, ◌⊎◌, ⊤, Bool, List, [], Option, Some, None, MatchOption, option_copied, slice_get, string_bytes}
use Rattle.ledger_files.specs.Moments.{IsTimeOf, moment_text}
use Rattle.ledger_files.specs.declared.utc.UtcTime.{UtcTime}
use Rattle.json_objects.specs.Written.{HasFrontBehind}
use Rattle.ledger_lines.specs.Written.{answer_count_value, entry_value, left_value, record_count_value, resumed_value}
use Rattle.ledger_lines.specs.declared.record_count.CountKind.{CountKind}
use Rattle.rad_config.specs.Realm.{realm_of_packet}
use Rattle.rad_desk.specs.declared.ledger.Earlier.{Earlier}
use Rattle.rad_desk.specs.ToldValues.{first_value, status_in}
use Rattle.rad_lane.specs.Session.{session_id}
use Rattle.ledger_rules.specs.declared.entry.Entry.{Entry}
use Rattle.ledger_rules.specs.declared.left.Left.{Left}
use Rattle.ledger_rules.specs.declared.line_request.LineRequest.{LineRequest}
use Rattle.ledger_rules.specs.declared.record_count.AnswerCount.{AnswerCount}
use Rattle.ledger_rules.specs.declared.record_count.RecordCount.{RecordCount}
use Rattle.ledger_rules.specs.declared.resumed.Resumed.{Resumed}
use Rattle.rad_packet.specs.Reading.{ReadsAs, Refuses}
use Rattle.rad_packet.specs.declared.faults.ReadFault.{ReadFault}
use Rattle.rad_lane.specs.declared.leftover.LeftState.{LeftState}
use Rattle.ledger_writer.specs.declared.parcel.NoteKind.{NoteKind}
use Rattle.ledger_writer.specs.declared.parcel.NoteKind.TheVariants as note
use Rattle.ledger_writer.specs.declared.parcel.ParcelKind.{ParcelKind}
use Rattle.ledger_writer.specs.declared.parcel.ParcelKind.TheVariants.{Count as counted, Left as left, Response as response}
use Rattle.ledger_writer.specs.declared.parcel.Parcel.{Parcel}
use Rattle.ledger_writer.specs.declared.parcel.ParcelHead.{ParcelHead}
use Rattle.ledger_writer.specs.declared.run_names.RunNames.{RunNames}

-- What the octets of a request tell besides its head: what their packet does, or nothing if they are none.
pub record TellsPacket (octets : List ℕ) (realm session : Option (List ℕ)) (status : Option ℕ) (user : Option (List ℕ)) : Type 0 where
  pub packet : List ℕ
  pub reads : ReadsAs octets packet
  pub its_realm : realm ≡ realm_of_packet packet
  pub its_session : session ≡ session_id packet
  pub its_status : status ≡ status_in (first_value 40 packet)
  pub its_user : user ≡ first_value 1 packet

pub record TellsNothing (octets : List ℕ) (realm session : Option (List ℕ)) (status : Option ℕ) (user : Option (List ℕ)) : Type 0 where
  pub fault : ReadFault
  pub refused : Refuses octets fault
  pub no_realm : realm ≡ None
  pub no_session : session ≡ None
  pub no_status : status ≡ None
  pub no_user : user ≡ None

abbrev pub Tells : List ℕ → Option (List ℕ) → Option (List ℕ) → Option ℕ → Option (List ℕ) → Type 0
Tells octets realm session status user = TellsPacket octets realm session status user ⊎ TellsNothing octets realm session status user

-- The name of a lane's home server. A lane that the run has not has no name.
abbrev pub IsHome : RunNames → ℕ → List ℕ → Type 0
IsHome names lane home = MatchOption (slice_get names.homes.items lane) (home ≡ []) (λ name. home ≡ string_bytes name)

-- The request that a line is about has what the head has, names the run and the lane's home server, and tells what the packet to the home
-- server does, or the packet as it came, if it is left.
pub record IsAboutOf (names : RunNames) (head : ParcelHead) (octets moment : List ℕ) (about : LineRequest) : Type 0 where
  pub run : about.run ≡ names.run
  pub time : about.time.now ≡ moment
  pub home : IsHome names head.lane about.home.now
  pub lane : about.lane ≡ head.lane
  pub number : about.number ≡ head.number
  pub client : about.client ≡ head.client
  pub port : about.port ≡ head.port
  pub identifier : about.identifier ≡ head.identifier
  pub authenticator : about.authenticator ≡ head.authenticator
  pub told : Tells octets (option_copied about.realm) (option_copied about.session) about.status (option_copied about.user)

-- The entry has this serial, and the packets of the parcel.
pub record IsEntryOf (names : RunNames) (parcel : Parcel) (its_serial : ℕ) (moment : List ℕ) (since : Option (List ℕ)) (entry : Entry) : Type 0 where
  pub about : IsAboutOf names parcel.head parcel.sent.now moment entry.about
  pub serial : entry.serial ≡ its_serial
  pub sent : entry.sent.now ≡ parcel.sent.now
  pub reply : entry.reply.now ≡ parcel.reply.now
  pub response : entry.response.now ≡ parcel.response.now
  pub accepted : option_copied entry.accepted ≡ since
  pub sendings : entry.sendings ≡ parcel.head.handling.sendings

-- The request that is left has this state and these octets, and is kept or not.
pub record IsLeftOf (names : RunNames) (head : ParcelHead) (its_state : LeftState) (is_kept : Bool) (octets moment : List ℕ) (since : Option (List ℕ)) (left : Left) : Type 0 where
  pub about : IsAboutOf names head octets moment left.about
  pub state : left.state ≡ its_state
  pub sendings : left.sendings ≡ head.handling.sendings
  pub accepted : option_copied left.accepted ≡ since
  pub request : left.request.now ≡ octets
  pub kept : left.kept ≡ is_kept

-- The text of the moment that is so many milliseconds after 1970-01-01T00:00:00Z; and that of one that may be there.
pub record IsMomentText (milliseconds : ℕ) (text : List ℕ) : Type 0 where
  pub moment : UtcTime
  pub is : IsTimeOf milliseconds moment
  pub written : text ≡ moment_text moment

abbrev pub IsMomentIfAny : Option ℕ → Option (List ℕ) → Type 0
IsMomentIfAny None None = ⊤
IsMomentIfAny None (Some text) = ⊥
IsMomentIfAny (Some milliseconds) None = ⊥
IsMomentIfAny (Some milliseconds) (Some text) = IsMomentText milliseconds text

-- Octets that are those before, and behind them the body of the line of an entry, or of a request that is left, that the parcel is.
pub record HasEntryBehind (names : RunNames) (parcel : Parcel) (its_serial : ℕ) (before all : List ℕ) : Type 0 where
  pub moment : List ℕ
  pub since : Option (List ℕ)
  pub entry : Entry
  pub time : IsMomentText parcel.head.time moment
  pub accepted : IsMomentIfAny parcel.head.handling.accepted since
  pub is : IsEntryOf names parcel its_serial moment since entry
  pub line : HasFrontBehind before all (entry_value entry)

pub record HasLeftBehind (names : RunNames) (parcel : Parcel) (its_state : LeftState) (is_kept : Bool) (before all : List ℕ) : Type 0 where
  pub moment : List ℕ
  pub since : Option (List ℕ)
  pub left : Left
  pub time : IsMomentText parcel.head.time moment
  pub accepted : IsMomentIfAny parcel.head.handling.accepted since
  pub is : IsLeftOf names parcel.head its_state is_kept parcel.sent.now moment since left
  pub line : HasFrontBehind before all (left_value left)

-- The same of a count: the run's name, that of the lane's home server, and what the head tells.
pub record IsCountOf (names : RunNames) (head : ParcelHead) (its : ℕ) (moment : List ℕ) (told : RecordCount) : Type 0 where
  pub run : told.run ≡ names.run
  pub time : told.time.now ≡ moment
  pub home : IsHome names head.lane told.home.now
  pub lane : told.lane ≡ head.lane
  pub number : told.number ≡ head.number
  pub count : told.count ≡ its

pub record HasCountBehind (names : RunNames) (head : ParcelHead) (kind : CountKind) (its : ℕ) (before all : List ℕ) : Type 0 where
  pub moment : List ℕ
  pub told : RecordCount
  pub time : IsMomentText head.time moment
  pub is : IsCountOf names head its moment told
  pub line : HasFrontBehind before all (record_count_value kind told)

-- The same of the response of an earlier run that was sent again: with the run, the lane and the serial of that. What the head tells of a
-- record is not said.
pub record IsAnswerCountOf (names : RunNames) (head : ParcelHead) (answer : Earlier) (its : ℕ) (moment : List ℕ) (told : AnswerCount) : Type 0 where
  pub run : told.run ≡ names.run
  pub time : told.time.now ≡ moment
  pub home : IsHome names head.lane told.home.now
  pub lane : told.lane ≡ head.lane
  pub answer_run : told.answer_run ≡ answer.run
  pub answer_lane : told.answer_lane ≡ answer.lane
  pub answer_serial : told.answer_serial ≡ answer.number
  pub count : told.count ≡ its

pub record HasAnswerCountBehind (names : RunNames) (head : ParcelHead) (answer : Earlier) (its : ℕ) (before all : List ℕ) : Type 0 where
  pub moment : List ℕ
  pub told : AnswerCount
  pub time : IsMomentText head.time moment
  pub is : IsAnswerCountOf names head answer its moment told
  pub line : HasFrontBehind before all (answer_count_value told)

-- The same of a record that an earlier run left: with the run, the lane and the number of its first acceptance.
pub record IsResumedOf (names : RunNames) (head : ParcelHead) (first : Earlier) (moment : List ℕ) (told : Resumed) : Type 0 where
  pub run : told.run ≡ names.run
  pub time : told.time.now ≡ moment
  pub home : IsHome names head.lane told.home.now
  pub lane : told.lane ≡ head.lane
  pub number : told.number ≡ head.number
  pub first_run : told.first_run ≡ first.run
  pub first_lane : told.first_lane ≡ first.lane
  pub first_number : told.first_number ≡ first.number

pub record HasResumedBehind (names : RunNames) (head : ParcelHead) (first : Earlier) (before all : List ℕ) : Type 0 where
  pub moment : List ℕ
  pub told : Resumed
  pub time : IsMomentText head.time moment
  pub is : IsResumedOf names head first moment told
  pub line : HasFrontBehind before all (resumed_value told)

abbrev pub HasNoteBehind : NoteKind → RunNames → ParcelHead → ℕ → List ℕ → List ℕ → Type 0
HasNoteBehind (note.Count kind) names head its before all = HasCountBehind names head kind its before all
HasNoteBehind (note.AgainEarlier answer) names head its before all = HasAnswerCountBehind names head answer its before all
HasNoteBehind (note.Resumed first) names head its before all = HasResumedBehind names head first before all

abbrev pub HasLineOf : ParcelKind → RunNames → Parcel → List ℕ → List ℕ → Type 0
HasLineOf (response serial sent_count reply_count response_count) names parcel before all = HasEntryBehind names parcel serial before all
HasLineOf (left state is_kept request_count) names parcel before all = HasLeftBehind names parcel state is_kept before all
HasLineOf (counted kind count) names parcel before all = HasNoteBehind kind names parcel.head count before all

abbrev pub HasParcelBehind : RunNames → Parcel → List ℕ → List ℕ → Type 0
HasParcelBehind names parcel before all = HasLineOf parcel.head.its names parcel before all
