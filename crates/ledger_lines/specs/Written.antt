-- Which value of JSON the line of each kind is, and what a reader asks of what it is made of (own).
use Rattle.std.specs.Prelude.{◌≡◌, ℕ, ◌<◌, ◌≤◌, ◌^◌, List, [], ◌∷◌, ◌++◌, length, codes, cond, Option, Some, None, option_copied, option_map, is_some, ⊤}
use Rattle.std.specs.List.{All}
use Rattle.std.specs.Int.{w64, to_be_bytes}
use Rattle.std.specs.Str.{is_utf8}
use Rattle.json.specs.Json.{Json, string, array}
use Rattle.hex.specs.Hex.{IsBytes, encode_lower}
use Rattle.rad_realms.specs.Address.{IsAddress}
use Rattle.rad_realms.specs.Printed.{address_text}
use Rattle.ledger_rules.specs.declared.entry.Entry.{Entry}
use Rattle.ledger_rules.specs.declared.left.Left.{Left}
use Rattle.ledger_rules.specs.declared.line_request.LineRequest.{LineRequest}
use Rattle.ledger_rules.specs.declared.record_count.AnswerCount.{AnswerCount}
use Rattle.ledger_rules.specs.declared.record_count.RecordCount.{RecordCount}
use Rattle.ledger_rules.specs.declared.resumed.Resumed.{Resumed}
use Rattle.json_objects.specs.Written.{items_of, number_value, object_of}
pub use Rattle.json_objects.specs.Written.{HasBodyBehind, HasFrontBehind}
use Rattle.ledger_lines.specs.Lines.{IsLine, IsTime, state_text, truth_if}
use Rattle.ledger_lines.specs.declared.begin.Begin.{Begin}
use Rattle.ledger_lines.specs.declared.end.End.{End}
use Rattle.ledger_lines.specs.declared.begin.FileBefore.{FileBefore}
use Rattle.ledger_lines.specs.declared.end.LaneCount.{LaneCount}
use Rattle.ledger_lines.specs.declared.lane_start.LaneStart.{LaneStart}
use Rattle.ledger_lines.specs.declared.reading.Line.{Line}
use Rattle.ledger_lines.specs.declared.reading.Line.TheVariants.{Again as repeats, Unsent as unsends}
use Rattle.ledger_lines.specs.declared.record_count.CountKind.{CountKind}
use Rattle.ledger_lines.specs.declared.record_count.CountKind.TheVariants.{Again, Unsent}

-- Octets, as two hexadecimal digits each.
abbrev pub octets_value : List ℕ → Json
octets_value octets = string (encode_lower octets)

-- What each line begins with: its type, the name of its run, its moment.
abbrev pub first_slots : List ℕ → ℕ → List ℕ → List (List ℕ × Option Json)
first_slots kind run time =
    (codes "type", Some (string kind)) ∷ (codes "run", Some (octets_value (to_be_bytes w64 run))) ∷ (codes "time", Some (string time)) ∷ []

-- Octets that may be there: under one key as the text that they are, else under another as digits.
abbrev pub text_if_any : Option (List ℕ) → Option Json
text_if_any None = None
text_if_any (Some octets) = cond (is_utf8 octets) (Some (string octets)) None

abbrev pub digits_if_any : Option (List ℕ) → Option Json
digits_if_any None = None
digits_if_any (Some octets) = cond (is_utf8 octets) None (Some (octets_value octets))

abbrev pub words_slots : List ℕ → List ℕ → Option (List ℕ) → List (List ℕ × Option Json)
words_slots key other octets = (key, text_if_any octets) ∷ (other, digits_if_any octets) ∷ []

-- The request that a line is about: what stands before its number, with the line's type, and what stands from there on.
abbrev pub lane_slots : List ℕ → LineRequest → List (List ℕ × Option Json)
lane_slots kind about =
    first_slots kind about.run about.time.now ++ (codes "home", Some (string about.home.now)) ∷ (codes "lane", Some (number_value about.lane)) ∷ []

abbrev pub request_slots : LineRequest → List (List ℕ × Option Json)
request_slots about =
    (codes "record", Some (number_value about.number)) ∷ (codes "client", Some (string (address_text about.client)))
    ∷ (codes "port", Some (number_value about.port)) ∷ (codes "identifier", Some (number_value about.identifier))
    ∷ (codes "authenticator", Some (octets_value about.authenticator)) ∷ (words_slots (codes "realm") (codes "realm_octets") (option_copied about.realm)
    ++ (words_slots (codes "session") (codes "session_octets") (option_copied about.session) ++ (codes "status", option_map number_value about.status)
    ∷ words_slots (codes "user") (codes "user_octets") (option_copied about.user)))

-- An entry, with its packets, the moment of its acceptance and how often it was sent last.
abbrev pub packet_slots : Entry → List (List ℕ × Option Json)
packet_slots e =
    (codes "sent", Some (octets_value e.sent.now)) ∷ (codes "reply", Some (octets_value e.reply.now)) ∷ (codes "response", Some (octets_value e.response.now))
    ∷ (codes "accepted", option_map string (option_copied e.accepted)) ∷ (codes "sendings", option_map number_value e.sendings) ∷ []

abbrev pub entry_slots : Entry → List (List ℕ × Option Json)
entry_slots e = lane_slots (codes "entry") e.about ++ (codes "serial", Some (number_value e.serial)) ∷ (request_slots e.about ++ packet_slots e)

abbrev pub entry_value : Entry → Json
entry_value e = object_of (entry_slots e)

-- A request that was left, with how it was left last.
abbrev pub state_slots : Left → List (List ℕ × Option Json)
state_slots left =
    (codes "state", Some (string (state_text left.state))) ∷ (codes "sendings", option_map number_value left.sendings)
    ∷ (codes "accepted", option_map string (option_copied left.accepted)) ∷ (codes "request", Some (octets_value left.request.now))
    ∷ (codes "kept", truth_if left.kept) ∷ []

abbrev pub left_slots : Left → List (List ℕ × Option Json)
left_slots left = lane_slots (codes "left") left.about ++ (request_slots left.about ++ state_slots left)

abbrev pub left_value : Left → Json
left_value left = object_of (left_slots left)

-- A line that names a run.
abbrev pub start_slots : LaneStart → List (List ℕ × Option Json)
start_slots start =
    (codes "lane", Some (number_value start.lane)) ∷ (codes "home", Some (string start.home.now)) ∷ (codes "serial", Some (number_value start.serial)) ∷ []

abbrev pub start_value : LaneStart → Json
start_value start = object_of (start_slots start)

abbrev pub file_slots : FileBefore → List (List ℕ × Option Json)
file_slots file =
    (codes "name", Some (string file.name.now)) ∷ (codes "sum", option_map octets_value file.sum) ∷ []

abbrev pub file_value : FileBefore → Json
file_value file = object_of (file_slots file)

abbrev pub begin_slots : Begin → List (List ℕ × Option Json)
begin_slots begin =
    first_slots (codes "begin") begin.run begin.time.now
    ++ (codes "version", Some (string begin.version.now)) ∷ (codes "file", Some (number_value begin.file))
    ∷ (codes "before", option_map file_value begin.before) ∷ (codes "lanes", Some (array (items_of start_value begin.lanes.items)))
    ∷ (codes "hidden", option_map number_value begin.hidden) ∷ []

abbrev pub begin_value : Begin → Json
begin_value begin = object_of (begin_slots begin)

-- A line that ends a run.
abbrev pub count_slots : LaneCount → List (List ℕ × Option Json)
count_slots count =
    (codes "lane", Some (number_value count.lane)) ∷ (codes "entries", Some (number_value count.entries))
    ∷ (codes "accepted", option_map number_value count.accepted) ∷ (codes "left", option_map number_value count.left) ∷ []

abbrev pub count_value : LaneCount → Json
count_value count = object_of (count_slots count)

abbrev pub end_slots : End → List (List ℕ × Option Json)
end_slots end =
    first_slots (codes "end") end.run end.time.now
    ++ (codes "lanes", Some (array (items_of count_value end.lanes.items))) ∷ (codes "hidden", option_map number_value end.hidden) ∷ []

abbrev pub end_value : End → Json
end_value end = object_of (end_slots end)

-- A line that counts what became of the response of a record, by what it counts; and as which line it is read.
abbrev pub kind_name : CountKind → List ℕ
kind_name Unsent = codes "unsent"
kind_name Again = codes "again"

abbrev pub record_count_slots : CountKind → RecordCount → List (List ℕ × Option Json)
record_count_slots kind its =
    first_slots (kind_name kind) its.run its.time.now
    ++ (codes "home", Some (string its.home.now)) ∷ (codes "lane", Some (number_value its.lane))
    ∷ (codes "record", Some (number_value its.number)) ∷ (codes "count", Some (number_value its.count)) ∷ []

abbrev pub record_count_value : CountKind → RecordCount → Json
record_count_value kind its = object_of (record_count_slots kind its)

abbrev pub counted_as : CountKind → RecordCount → Line
counted_as Unsent its = unsends its
counted_as Again its = repeats its

-- A line that counts how often the response of an earlier run was sent again.
abbrev pub answer_count_slots : AnswerCount → List (List ℕ × Option Json)
answer_count_slots its =
    first_slots (codes "again") its.run its.time.now
    ++ (codes "home", Some (string its.home.now)) ∷ (codes "lane", Some (number_value its.lane))
    ∷ (codes "answer_run", Some (octets_value (to_be_bytes w64 its.answer_run))) ∷ (codes "answer_lane", Some (number_value its.answer_lane))
    ∷ (codes "answer_serial", Some (number_value its.answer_serial)) ∷ (codes "count", Some (number_value its.count)) ∷ []

abbrev pub answer_count_value : AnswerCount → Json
answer_count_value its = object_of (answer_count_slots its)

-- A line of a request that was taken over.
abbrev pub resumed_slots : Resumed → List (List ℕ × Option Json)
resumed_slots its =
    first_slots (codes "resumed") its.run its.time.now
    ++ (codes "home", Some (string its.home.now)) ∷ (codes "lane", Some (number_value its.lane)) ∷ (codes "record", Some (number_value its.number))
    ∷ (codes "first_run", Some (octets_value (to_be_bytes w64 its.first_run))) ∷ (codes "first_lane", Some (number_value its.first_lane))
    ∷ (codes "first_record", Some (number_value its.first_number)) ∷ []

abbrev pub resumed_value : Resumed → Json
resumed_value its = object_of (resumed_slots its)

-- What a reader asks of a number that may be there, of a sum, of a lane that is counted, and of a line that ends a run. The types give the
-- bounds.
abbrev pub IsBelowIfAny : ℕ → Option ℕ → Type 0
IsBelowIfAny limit None = ⊤
IsBelowIfAny limit (Some its) = its < limit

pub record IsSum (sum : List ℕ) : Type 0 where
  pub long : length sum ≡ 32
  pub octets : IsBytes sum

abbrev pub IsSumIfAny : Option (List ℕ) → Type 0
IsSumIfAny None = ⊤
IsSumIfAny (Some sum) = IsSum sum

pub record IsReadableCount (count : LaneCount) : Type 0 where
  pub lane : count.lane < 2 ^ 16
  pub entries : count.entries < 2 ^ 64
  pub accepted : IsBelowIfAny (2 ^ 64) count.accepted
  pub left : IsBelowIfAny (2 ^ 64) count.left
  pub both_or_none : is_some count.accepted ≡ is_some count.left

pub record IsReadableEnd (end : End) : Type 0 where
  pub run : end.run < 2 ^ 64
  pub time : IsTime end.time.now
  pub hidden : IsBelowIfAny (2 ^ 32) end.hidden
  pub lanes : All IsReadableCount end.lanes.items

pub record IsReadableStart (start : LaneStart) : Type 0 where
  pub lane : start.lane < 2 ^ 16
  pub serial : start.serial < 2 ^ 63

pub record IsReadableFile (file : FileBefore) : Type 0 where
  pub sum : IsSumIfAny file.sum

abbrev pub IsReadableFileIfAny : Option FileBefore → Type 0
IsReadableFileIfAny None = ⊤
IsReadableFileIfAny (Some file) = IsReadableFile file

pub record IsReadableBegin (begin : Begin) : Type 0 where
  pub run : begin.run < 2 ^ 64
  pub time : IsTime begin.time.now
  pub file : begin.file < 2 ^ 64
  pub hidden : IsBelowIfAny (2 ^ 32) begin.hidden
  pub before : IsReadableFileIfAny begin.before
  pub lanes : All IsReadableStart begin.lanes.items

-- The same of octets that may be there, of the request that a line is about, of an entry, and of a request that was left.
abbrev pub AreBytesIfAny : Option (List ℕ) → Type 0
AreBytesIfAny None = ⊤
AreBytesIfAny (Some octets) = IsBytes octets

pub record IsReadableRequest (about : LineRequest) : Type 0 where
  pub run : about.run < 2 ^ 64
  pub time : IsTime about.time.now
  pub lane : about.lane < 2 ^ 16
  pub record_is : about.number < 2 ^ 64
  pub client : IsAddress about.client
  pub port : about.port < 2 ^ 16
  pub identifier : about.identifier < 2 ^ 8
  pub long : length about.authenticator ≡ 16
  pub octets : IsBytes about.authenticator
  pub realm : AreBytesIfAny (option_copied about.realm)
  pub session : AreBytesIfAny (option_copied about.session)
  pub status : IsBelowIfAny (2 ^ 32) about.status
  pub user : AreBytesIfAny (option_copied about.user)

abbrev pub IsTimeIfAny : Option (List ℕ) → Type 0
IsTimeIfAny None = ⊤
IsTimeIfAny (Some time) = IsTime time

pub record IsReadableEntry (e : Entry) : Type 0 where
  pub about : IsReadableRequest e.about
  pub serial : e.serial < 2 ^ 63
  pub sent : IsBytes e.sent.now
  pub reply : IsBytes e.reply.now
  pub response : IsBytes e.response.now
  pub accepted : IsTimeIfAny (option_copied e.accepted)
  pub sendings : IsBelowIfAny (2 ^ 32) e.sendings

pub record IsReadableLeft (left : Left) : Type 0 where
  pub about : IsReadableRequest left.about
  pub sendings : IsBelowIfAny (2 ^ 32) left.sendings
  pub accepted : IsTimeIfAny (option_copied left.accepted)
  pub request : IsBytes left.request.now

-- The same of a line that counts what became of the response of a record: at least once.
pub record IsReadableRecordCount (its : RecordCount) : Type 0 where
  pub run : its.run < 2 ^ 64
  pub time : IsTime its.time.now
  pub lane : its.lane < 2 ^ 16
  pub record_is : its.number < 2 ^ 64
  pub some : 0 < its.count
  pub count : its.count < 2 ^ 64

pub record IsReadableAnswerCount (its : AnswerCount) : Type 0 where
  pub run : its.run < 2 ^ 64
  pub time : IsTime its.time.now
  pub lane : its.lane < 2 ^ 16
  pub answer_run : its.answer_run < 2 ^ 64
  pub answer_lane : its.answer_lane < 2 ^ 16
  pub answer_serial : its.answer_serial < 2 ^ 63
  pub some : 0 < its.count
  pub count : its.count < 2 ^ 64

-- The same of a line of a request that was taken over.
pub record IsReadableResumed (its : Resumed) : Type 0 where
  pub run : its.run < 2 ^ 64
  pub time : IsTime its.time.now
  pub lane : its.lane < 2 ^ 16
  pub record_is : its.number < 2 ^ 64
  pub first_run : its.first_run < 2 ^ 64
  pub first_lane : its.first_lane < 2 ^ 16
  pub first_record : its.first_number < 2 ^ 64

-- The tail that a line gets: its sum, the last of its keys, and its last brace.
abbrev pub sum_slot : List ℕ → List ℕ × Option Json
sum_slot sum = (codes "sum", Some (octets_value sum))

abbrev pub sum_text : List ℕ → List ℕ
sum_text sum = codes ",\"sum\":\"" ++ (encode_lower sum ++ codes "\"}")

-- Octets that a front and a sum are, as they are read: this line, with this sum.
abbrev pub IsSummedAs : List ℕ → List ℕ → Line → Type 0
IsSummedAs front sum line = length (front ++ sum_text sum) ≤ 65536 → IsLine (front ++ sum_text sum) (record { line = line; sum = Some sum })
