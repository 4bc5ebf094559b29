-- Lines of a ledger (RFC 8259, RFC 3339, own): objects of JSON, with their keys in any order, each once.
use Rattle.std.specs.Prelude.{◌≡◌, ℕ, ◌<◌, ◌≤◌, ◌*◌, ◌^◌, List, [], ◌∷◌, length, get_or, codes, Bool, true, false, option_copied, IsTrue, cond, ◌==◌, Option, Some, None, Ok, ◌⊎◌, is_some, ⊤}
use Rattle.std.specs.List.{All, Contains}
use Rattle.std.specs.Int.{w64, from_be_bytes}
use Rattle.std.specs.Char.{is_ascii_digit}
use Rattle.std.specs.Str.Parse.{IsNumeral, digits_value, without_leading_plus}
use Rattle.json.specs.Json.{Json, null, boolean, string, number, array, object, Items, no_items, item}
use Rattle.json.specs.Find.{get}
use Rattle.json.specs.Strict.{keys}
use Rattle.json_objects.specs.Written.{IsValue}
use Rattle.hex.specs.Hex.{decode_of}
use Rattle.rad_realms.specs.Address.{address_in}
use Rattle.ledger_rules.specs.declared.entry.Entry.{Entry}
use Rattle.ledger_rules.specs.declared.left.Left.{Left}
use Rattle.rad_lane.specs.declared.leftover.LeftState.{LeftState}
use Rattle.rad_lane.specs.declared.leftover.LeftState.TheVariants.{Queued, Outstanding, Untaken}
use Rattle.ledger_rules.specs.declared.line_request.LineRequest.{LineRequest}
use Rattle.ledger_rules.specs.declared.record_count.AnswerCount.{AnswerCount}
use Rattle.ledger_rules.specs.declared.record_count.RecordCount.{RecordCount}
use Rattle.ledger_rules.specs.declared.resumed.Resumed.{Resumed}
use Rattle.ledger_lines.specs.Moments.{IsMoment}
use Rattle.ledger_lines.specs.declared.begin.Begin.{Begin}
use Rattle.ledger_lines.specs.declared.end.End.{End}
use Rattle.ledger_lines.specs.declared.begin.FileBefore.{FileBefore}
use Rattle.ledger_lines.specs.declared.hidden.Hidden.{Hidden}
use Rattle.ledger_lines.specs.declared.hidden.HiddenKind.{HiddenKind}
use Rattle.ledger_lines.specs.declared.hidden.HiddenKind.TheVariants.{Entry as AnEntry, Left as ALeft, Unsent as AnUnsent, Again as AnAgain, Resumed as AResumed}
use Rattle.ledger_lines.specs.declared.lane_start.LaneStart.{LaneStart}
use Rattle.ledger_lines.specs.declared.end.LaneCount.{LaneCount}
use Rattle.ledger_lines.specs.declared.faults.LineFault.{LineFault}
use Rattle.ledger_lines.specs.declared.faults.LineFault.TheVariants.{NotALine, OutOfMemory}
use Rattle.ledger_lines.specs.declared.reading.Line.{Line}
use Rattle.ledger_lines.specs.declared.reading.SummedLine.{SummedLine}
use Rattle.ledger_lines.specs.declared.reading.Line.TheVariants.{Begin as begins, Entry as enters, Left as leaves, Unsent as unsends, Again as repeats, AgainEarlier as recalls, Resumed as resumes, End as ends, Hidden as hides}

-- A fault tells that nothing is there, where it is not want of memory.
abbrev pub Denies : LineFault → Type 0 → Type 0
Denies NotALine there = ¬ there
Denies OutOfMemory there = ⊤

-- What an object has at a key: nothing; a text; a whole number below this limit, without sign, point or exponent (JSON has no plus
-- before a number); octets, as hexadecimal digits.
abbrev pub Lacks : List ℕ → Json → Type 0
Lacks key value = get key value ≡ None

abbrev pub HasText : List ℕ → Json → List ℕ → Type 0
HasText key value text = get key value ≡ Some (string text)

pub record HasNumber (key : List ℕ) (limit : ℕ) (value : Json) (its : ℕ) : Type 0 where
  pub digits : List ℕ
  pub there : get key value ≡ Some (number digits)
  pub numeral : IsNumeral 10 (without_leading_plus digits)
  pub its_digits : digits_value 10 (without_leading_plus digits) ≡ its
  pub below : its < limit

pub record HasOctets (key : List ℕ) (value : Json) (octets : List ℕ) : Type 0 where
  pub digits : List ℕ
  pub there : HasText key value digits
  pub are : decode_of digits ≡ Ok octets

-- What may be there or not: a number, and octets that are a text under one key, or digits under another.
abbrev pub MayHaveNumber : List ℕ → ℕ → Json → Option ℕ → Type 0
MayHaveNumber key limit value None = Lacks key value
MayHaveNumber key limit value (Some its) = HasNumber key limit value its

abbrev pub MayHaveWords : List ℕ → List ℕ → Json → Option (List ℕ) → Type 0
MayHaveWords key other value None = Lacks key value × Lacks other value
MayHaveWords key other value (Some octets) = (HasText key value octets × Lacks other value) ⊎ (Lacks key value × HasOctets other value octets)

-- What may hold or not: `true`, or nothing.
abbrev pub truth_if : Bool → Option Json
truth_if true = Some (boolean true)
truth_if false = None

abbrev pub HasTruth : List ℕ → Json → Bool → Type 0
HasTruth key value holds = get key value ≡ truth_if holds

-- An object that has no keys but these. None stands in it twice (`IsValue`).
abbrev pub HasOnly : List (List ℕ) → Json → Type 0
HasOnly known null = ⊥
HasOnly known (boolean b) = ⊥
HasOnly known (number digits) = ⊥
HasOnly known (string text) = ⊥
HasOnly known (array items) = ⊥
HasOnly known (object members) = All (Contains known) (keys members)

-- A moment, as `2026-01-31T23:59:59.999Z`: a digit where the form has `d`, and else what the form has.
abbrev pub has_form : ℕ → ℕ → Bool
has_form form octet = cond (form == 100) (is_ascii_digit octet) (octet == form)

pub record HasTimeForm (text : List ℕ) : Type 0 where
  pub long : length text ≡ 24
  pub formed : (place : ℕ) → place < 24 → IsTrue (has_form (get_or (codes "dddd-dd-ddTdd:dd:dd.dddZ") place 0) (get_or text place 0))

pub record IsTime (text : List ℕ) : Type 0 where
  pub form : HasTimeForm text
  pub exists : IsMoment text

-- So many octets, as twice as many digits.
pub record HasArray (key : List ℕ) (count : ℕ) (value : Json) (octets : List ℕ) : Type 0 where
  pub digits : List ℕ
  pub there : HasText key value digits
  pub long : length digits ≡ 2 * count
  pub are : decode_of digits ≡ Ok octets

-- A SHA-256 that may be there.
abbrev pub MayHaveSum : List ℕ → Json → Option (List ℕ) → Type 0
MayHaveSum key value None = Lacks key value
MayHaveSum key value (Some sum) = HasArray key 32 value sum

-- A run's name: a number of eight octets; and that of the line's own run.
pub record HasName (key : List ℕ) (value : Json) (run : ℕ) : Type 0 where
  pub octets : List ℕ
  pub there : HasArray key 8 value octets
  pub are : from_be_bytes w64 octets ≡ run

abbrev pub HasRun : Json → ℕ → Type 0
HasRun value run = HasName (codes "run") value run

pub record HasTime (key : List ℕ) (value : Json) (time : List ℕ) : Type 0 where
  pub there : HasText key value time
  pub is : IsTime time

abbrev pub MayHaveTime : List ℕ → Json → Option (List ℕ) → Type 0
MayHaveTime key value None = Lacks key value
MayHaveTime key value (Some time) = HasTime key value time

-- A client's address, and a request's Authenticator.
pub record HasClient (value : Json) (client : List ℕ) : Type 0 where
  pub text : List ℕ
  pub there : HasText (codes "client") value text
  pub is : address_in text ≡ Some client

abbrev pub HasAuthenticator : Json → List ℕ → Type 0
HasAuthenticator value octets = HasArray (codes "authenticator") 16 value octets

-- The request that a line is about, with its run and the moment of the line.
pub record IsAbout (value : Json) (about : LineRequest) : Type 0 where
  pub run : HasRun value about.run
  pub time : HasTime (codes "time") value about.time.now
  pub home : HasText (codes "home") value about.home.now
  pub lane : HasNumber (codes "lane") (2 ^ 16) value about.lane
  pub record_is : HasNumber (codes "record") (2 ^ 64) value about.number
  pub client : HasClient value about.client
  pub port : HasNumber (codes "port") (2 ^ 16) value about.port
  pub identifier : HasNumber (codes "identifier") (2 ^ 8) value about.identifier
  pub authenticator : HasAuthenticator value about.authenticator
  pub realm : MayHaveWords (codes "realm") (codes "realm_octets") value (option_copied about.realm)
  pub session : MayHaveWords (codes "session") (codes "session_octets") value (option_copied about.session)
  pub status : MayHaveNumber (codes "status") (2 ^ 32) value about.status
  pub user : MayHaveWords (codes "user") (codes "user_octets") value (option_copied about.user)

-- The keys of an entry, with those that it may lack.
abbrev pub keys_of_entry : List (List ℕ)
keys_of_entry =
    codes "type" ∷ codes "run" ∷ codes "time" ∷ codes "home" ∷ codes "lane" ∷ codes "serial" ∷ codes "record" ∷ codes "client" ∷ codes "port"
    ∷ codes "identifier" ∷ codes "authenticator" ∷ codes "realm" ∷ codes "realm_octets" ∷ codes "session" ∷ codes "session_octets"
    ∷ codes "status" ∷ codes "user" ∷ codes "user_octets" ∷ codes "sent" ∷ codes "reply" ∷ codes "response" ∷ codes "accepted"
    ∷ codes "sendings" ∷ codes "sum" ∷ []

pub record IsEntry (value : Json) (e : Entry) : Type 0 where
  pub no_other : HasOnly keys_of_entry value
  pub type_is : HasText (codes "type") value (codes "entry")
  pub about : IsAbout value e.about
  pub serial : HasNumber (codes "serial") (2 ^ 63) value e.serial
  pub sent : HasOctets (codes "sent") value e.sent.now
  pub reply : HasOctets (codes "reply") value e.reply.now
  pub response : HasOctets (codes "response") value e.response.now
  pub accepted : MayHaveTime (codes "accepted") value (option_copied e.accepted)
  pub sendings : MayHaveNumber (codes "sendings") (2 ^ 32) value e.sendings

-- How a request was left, as a line has it.
abbrev pub state_text : LeftState → List ℕ
state_text Queued = codes "queued"
state_text Outstanding = codes "outstanding"
state_text Untaken = codes "untaken"

abbrev pub HasState : Json → LeftState → Type 0
HasState value state = HasText (codes "state") value (state_text state)

-- The keys of a request that was left, with those that it may lack.
abbrev pub keys_of_left : List (List ℕ)
keys_of_left =
    codes "type" ∷ codes "run" ∷ codes "time" ∷ codes "home" ∷ codes "lane" ∷ codes "record" ∷ codes "client" ∷ codes "port"
    ∷ codes "identifier" ∷ codes "authenticator" ∷ codes "realm" ∷ codes "realm_octets" ∷ codes "session" ∷ codes "session_octets"
    ∷ codes "status" ∷ codes "user" ∷ codes "user_octets" ∷ codes "state" ∷ codes "sendings" ∷ codes "accepted" ∷ codes "request"
    ∷ codes "kept" ∷ codes "sum" ∷ []

pub record IsLeft (value : Json) (left : Left) : Type 0 where
  pub no_other : HasOnly keys_of_left value
  pub type_is : HasText (codes "type") value (codes "left")
  pub about : IsAbout value left.about
  pub state : HasState value left.state
  pub sendings : MayHaveNumber (codes "sendings") (2 ^ 32) value left.sendings
  pub accepted : MayHaveTime (codes "accepted") value (option_copied left.accepted)
  pub request : HasOctets (codes "request") value left.request.now
  pub kept : HasTruth (codes "kept") value left.kept

-- The values of a list, in order, each of which is what stands at its place.
abbrev pub AreEach : {X : Type 0} → (Json → X → Type 0) → Items → List X → Type 0
AreEach Is no_items [] = ⊤
AreEach Is no_items (x ∷ xs) = ⊥
AreEach Is (item value values) [] = ⊥
AreEach Is (item value values) (x ∷ xs) = Is value x × AreEach Is values xs

abbrev pub as_items : Json → Option Items
as_items null = None
as_items (boolean b) = None
as_items (number digits) = None
as_items (string text) = None
as_items (array items) = Some items
as_items (object ms) = None

abbrev pub HasList : Json → Items → Type 0
HasList value items = get (codes "lanes") value ≡ Some (array items)

pub record HasLanes {X : Type 0} (Is : Json → X → Type 0) (value : Json) (lanes : List X) : Type 0 where
  pub items : Items
  pub there : HasList value items
  pub are : AreEach Is items lanes

pub record IsLaneStart (value : Json) (start : LaneStart) : Type 0 where
  pub no_other : HasOnly (codes "lane" ∷ codes "home" ∷ codes "serial" ∷ []) value
  pub lane : HasNumber (codes "lane") (2 ^ 16) value start.lane
  pub home : HasText (codes "home") value start.home.now
  pub serial : HasNumber (codes "serial") (2 ^ 63) value start.serial

pub record IsLaneCount (value : Json) (count : LaneCount) : Type 0 where
  pub no_other : HasOnly (codes "lane" ∷ codes "entries" ∷ codes "accepted" ∷ codes "left" ∷ []) value
  pub lane : HasNumber (codes "lane") (2 ^ 16) value count.lane
  pub entries : HasNumber (codes "entries") (2 ^ 64) value count.entries
  pub accepted : MayHaveNumber (codes "accepted") (2 ^ 64) value count.accepted
  pub left : MayHaveNumber (codes "left") (2 ^ 64) value count.left
  pub both_or_none : is_some count.accepted ≡ is_some count.left

-- The file of another run, which the first line of a file may name, with the sum of its last whole line. An earlier version had its
-- octets and their SHA-256 instead, of which nothing is asked.
pub record IsFileBefore (value : Json) (file : FileBefore) : Type 0 where
  pub no_other : HasOnly (codes "name" ∷ codes "sum" ∷ codes "octets" ∷ codes "sha256" ∷ []) value
  pub name : HasText (codes "name") value file.name.now
  pub sum : MayHaveSum (codes "sum") value file.sum

pub record HasFile (value : Json) (file : FileBefore) : Type 0 where
  pub found : Json
  pub there : get (codes "before") value ≡ Some found
  pub is : IsFileBefore found file

abbrev pub MayHaveFile : Json → Option FileBefore → Type 0
MayHaveFile value None = Lacks (codes "before") value
MayHaveFile value (Some file) = HasFile value file

-- The keys of the first line of a file, with those that it may lack.
abbrev pub keys_of_begin : List (List ℕ)
keys_of_begin =
    codes "type" ∷ codes "run" ∷ codes "time" ∷ codes "version" ∷ codes "file" ∷ codes "before" ∷ codes "lanes" ∷ codes "hidden"
    ∷ codes "sum" ∷ []

pub record IsBegin (value : Json) (begin : Begin) : Type 0 where
  pub no_other : HasOnly keys_of_begin value
  pub type_is : HasText (codes "type") value (codes "begin")
  pub run : HasRun value begin.run
  pub time : HasTime (codes "time") value begin.time.now
  pub version : HasText (codes "version") value begin.version.now
  pub file : HasNumber (codes "file") (2 ^ 64) value begin.file
  pub before : MayHaveFile value begin.before
  pub lanes : HasLanes IsLaneStart value begin.lanes.items
  pub hidden : MayHaveNumber (codes "hidden") (2 ^ 32) value begin.hidden

pub record IsEnd (value : Json) (end : End) : Type 0 where
  pub no_other : HasOnly (codes "type" ∷ codes "run" ∷ codes "time" ∷ codes "lanes" ∷ codes "hidden" ∷ codes "sum" ∷ []) value
  pub type_is : HasText (codes "type") value (codes "end")
  pub run : HasRun value end.run
  pub time : HasTime (codes "time") value end.time.now
  pub lanes : HasLanes IsLaneCount value end.lanes.items
  pub hidden : MayHaveNumber (codes "hidden") (2 ^ 32) value end.hidden

-- A line of this kind that counts what became of the response of a record: at least once.
pub record HasSome (value : Json) (its : ℕ) : Type 0 where
  pub there : HasNumber (codes "count") (2 ^ 64) value its
  pub some : 0 < its

pub record IsRecordCount (kind : List ℕ) (value : Json) (its : RecordCount) : Type 0 where
  pub no_other : HasOnly (codes "type" ∷ codes "run" ∷ codes "time" ∷ codes "home" ∷ codes "lane" ∷ codes "record" ∷ codes "count" ∷ codes "sum" ∷ []) value
  pub type_is : HasText (codes "type") value kind
  pub run : HasRun value its.run
  pub time : HasTime (codes "time") value its.time.now
  pub home : HasText (codes "home") value its.home.now
  pub lane : HasNumber (codes "lane") (2 ^ 16) value its.lane
  pub record_is : HasNumber (codes "record") (2 ^ 64) value its.number
  pub count : HasSome value its.count

-- A line that counts how often the response that an earlier run gave was sent again. It names no record: the response's serial there does.
abbrev pub keys_of_answer_count : List (List ℕ)
keys_of_answer_count =
    codes "type" ∷ codes "run" ∷ codes "time" ∷ codes "home" ∷ codes "lane" ∷ codes "answer_run" ∷ codes "answer_lane" ∷ codes "answer_serial"
    ∷ codes "count" ∷ codes "sum" ∷ []

pub record IsAnswerCount (value : Json) (its : AnswerCount) : Type 0 where
  pub no_other : HasOnly keys_of_answer_count value
  pub no_record : Lacks (codes "record") value
  pub type_is : HasText (codes "type") value (codes "again")
  pub run : HasRun value its.run
  pub time : HasTime (codes "time") value its.time.now
  pub home : HasText (codes "home") value its.home.now
  pub lane : HasNumber (codes "lane") (2 ^ 16) value its.lane
  pub answer_run : HasName (codes "answer_run") value its.answer_run
  pub answer_lane : HasNumber (codes "answer_lane") (2 ^ 16) value its.answer_lane
  pub answer_serial : HasNumber (codes "answer_serial") (2 ^ 63) value its.answer_serial
  pub count : HasSome value its.count

-- A line of a request that an earlier run left and a lane took over.
abbrev pub keys_of_resumed : List (List ℕ)
keys_of_resumed =
    codes "type" ∷ codes "run" ∷ codes "time" ∷ codes "home" ∷ codes "lane" ∷ codes "record" ∷ codes "first_run" ∷ codes "first_lane"
    ∷ codes "first_record" ∷ codes "sum" ∷ []

pub record IsResumed (value : Json) (its : Resumed) : Type 0 where
  pub no_other : HasOnly keys_of_resumed value
  pub type_is : HasText (codes "type") value (codes "resumed")
  pub run : HasRun value its.run
  pub time : HasTime (codes "time") value its.time.now
  pub home : HasText (codes "home") value its.home.now
  pub lane : HasNumber (codes "lane") (2 ^ 16) value its.lane
  pub record_is : HasNumber (codes "record") (2 ^ 64) value its.number
  pub first_run : HasName (codes "first_run") value its.first_run
  pub first_lane : HasNumber (codes "first_lane") (2 ^ 16) value its.first_lane
  pub first_record : HasNumber (codes "first_record") (2 ^ 64) value its.first_number

-- The kind of a line that is left out, as the line in its place has it.
abbrev pub kind_text : HiddenKind → List ℕ
kind_text AnEntry = codes "entry"
kind_text ALeft = codes "left"
kind_text AnUnsent = codes "unsent"
kind_text AnAgain = codes "again"
kind_text AResumed = codes "resumed"

abbrev pub HasKind : Json → HiddenKind → Type 0
HasKind value kind = HasText (codes "kind") value (kind_text kind)

abbrev pub MayHaveKind : Json → Option HiddenKind → Type 0
MayHaveKind value None = Lacks (codes "kind") value
MayHaveKind value (Some kind) = HasKind value kind

-- A line that stands for one that is left out.
pub record IsHidden (value : Json) (hidden : Hidden) : Type 0 where
  pub no_other : HasOnly (codes "type" ∷ codes "lane" ∷ codes "kind" ∷ codes "sum" ∷ []) value
  pub type_is : HasText (codes "type") value (codes "hidden")
  pub lane : MayHaveNumber (codes "lane") (2 ^ 16) value hidden.lane
  pub kind : MayHaveKind value hidden.kind
  pub sum : HasArray (codes "sum") 32 value hidden.sum

abbrev pub IsLineOf : Json → Line → Type 0
IsLineOf value (begins begin) = IsBegin value begin
IsLineOf value (enters entry) = IsEntry value entry
IsLineOf value (leaves left) = IsLeft value left
IsLineOf value (unsends its) = IsRecordCount (codes "unsent") value its
IsLineOf value (repeats its) = IsRecordCount (codes "again") value its
IsLineOf value (recalls its) = IsAnswerCount value its
IsLineOf value (resumes its) = IsResumed value its
IsLineOf value (ends end) = IsEnd value end
IsLineOf value (hides hidden) = IsHidden value hidden

-- Octets that are a line of a ledger, of at most so many, with its sum, if it has one.
pub record IsLine (octets : List ℕ) (line : SummedLine) : Type 0 where
  pub most : length octets ≤ 65536
  pub value : Json
  pub its_value : IsValue octets value
  pub sum : MayHaveSum (codes "sum") value line.sum
  pub is : IsLineOf value line.line
