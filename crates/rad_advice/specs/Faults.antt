-- What is told of each fault of a configuration (own): the value, if it can be no secret, and a hint.
use Rattle.std.specs.Prelude.{ℕ, nat_le, int_lt, pos, Bool, true, false, not, ◌==◌, List, [], ◌++◌, length, map, filter, codes, Option, Some, None, option_and_then, IfSome, if◌then◌else◌}
use Rattle.std.specs.List.{list_any}
use Rattle.std.specs.Char.{is_ascii_alphabetic}
use Rattle.std.specs.Fmt.{signed_decimal, decimal}
use Rattle.toml.specs.Data.{Data, string, integer, Members, get, at, get_member, as_str}
use Rattle.toml.specs.Parse.{parse_document}
use Rattle.rad_config.specs.declared.reading.faults.Part.{Part}
use Rattle.rad_config.specs.declared.reading.faults.Part.TheVariants as part
use Rattle.rad_config.specs.declared.reading.faults.Key.{Key}
use Rattle.rad_config.specs.declared.reading.faults.Key.TheVariants.{Listen, DefaultHome, OtherHome, Linger, Client, Home, Realm, Address, Secret, Name, Window, Queue, Book, Tries, FirstWait, ProbeEvery, DownWait, Span, Ring, Ports}
use Rattle.rad_config.specs.declared.reading.faults.Spot.{Spot}
use Rattle.rad_config.specs.declared.reading.faults.ConfigFault.{ConfigFault}
use Rattle.rad_config.specs.declared.reading.faults.ConfigFault.TheVariants.{Toml, OutOfMemory, Missing, WrongType, OutOfRange, DoubleName, UnknownHome, BadAddress, TooMany}
use Rattle.rad_realms.specs.Spot.{part_name, key_name, fault_text}
use Rattle.rad_realms.specs.Faults.{faults_in}
use Rattle.rad_advice.specs.declared.place.TextPlace.{TextPlace}
use Rattle.rad_advice.specs.declared.faults.Shown.{Shown}
use Rattle.rad_advice.specs.declared.faults.Shown.TheVariants as shown
use Rattle.rad_advice.specs.declared.faults.FaultReport.{FaultReport}
use Rattle.rad_advice.specs.Keys.{BeginsAtPlace}
use Rattle.rad_advice.specs.Printed.{name_text, at_text}
use Rattle.rad_advice.specs.Telling.{is_told}

-- ---- the value

-- The value at a key, in the table that has this index in its part.
abbrev pub data_in : Part → ℕ → List ℕ → Members → Option Data
data_in part.Top index key doc = get_member key doc
data_in p index key doc = option_and_then (get key) (option_and_then (at index) (get_member (part_name p) doc))

abbrev pub data_at : Spot → Members → Option Data
data_at s doc = data_in s.part s.index (key_name s.key) doc

-- A text is told if it has nothing but digits, `.`, `:` and `/`, and a whole number if it is not negative.
abbrev pub data_text : Option Data → List ℕ
data_text (Some (string text)) = if is_told text then codes ": " ++ name_text text else []
data_text (Some (integer number)) = if int_lt number (pos 0) then [] else codes ": " ++ signed_decimal number
data_text _ = []

abbrev pub is_secret : Key → Bool
is_secret Secret = true
is_secret _ = false

-- A fault of a text, or of memory, has no key.
abbrev pub spot_in : ConfigFault → Option Spot
spot_in Toml = None
spot_in OutOfMemory = None
spot_in (Missing s) = Some s
spot_in (WrongType s) = Some s
spot_in (OutOfRange s) = Some s
spot_in (DoubleName s) = Some s
spot_in (UnknownHome s) = Some s
spot_in (BadAddress s) = Some s
spot_in (TooMany s) = Some s

-- How the value is told: not at all, if it is a secret.
abbrev pub value_at : Option Spot → Members → List ℕ
value_at None doc = []
value_at (Some s) doc = if is_secret s.key then [] else data_text (data_at s doc)

abbrev pub value_text : ConfigFault → Members → List ℕ
value_text fault doc = value_at (spot_in fault) doc

-- The text at the key of the fault, if it is one.
abbrev pub text_at : ConfigFault → Members → Option (List ℕ)
text_at fault doc = option_and_then (λ s. option_and_then as_str (data_at s doc)) (spot_in fault)

-- ---- the hint

abbrev pub has_octet : List ℕ → ℕ → Bool
has_octet text octet = list_any (λ o. o == octet) text

abbrev pub has_letter : List ℕ → Bool
has_letter text = list_any is_ascii_alphabetic text

-- Two `:` or more.
abbrev pub has_colons : List ℕ → Bool
has_colons text = nat_le 2 (length (filter (λ o. o == 58) text))

-- The hint for a text that is no address of a client.
abbrev pub client_hint : List ℕ → List ℕ
client_hint text =
    if has_octet text 47 then codes ": it is a block: one [[client]] for each address"
    else if has_colons text then codes ": it is IPv6: IPv4 alone is served"
    else if has_octet text 58 then codes ": it has a port: a client has none"
    else if has_letter text then codes ": it is a host name, not an address"
    else codes ": four numbers from 0 to 255, joined by dots, none with a 0 before it"

-- The hint for a text that is no address and port.
abbrev pub server_hint : List ℕ → List ℕ
server_hint text =
    if has_octet text 47 then codes ": it is a block, not an address and port"
    else if has_colons text then codes ": it is IPv6: IPv4 alone is served"
    else if has_letter text then codes ": it is a host name, not an address"
    else if not (has_octet text 58) then codes ": the port is missing"
    else codes ": an address and a port from 1 to 65535, as in 192.0.2.1:1813"

abbrev pub address_hint : Part → List ℕ → List ℕ
address_hint part.Client text = client_hint text
address_hint _ text = server_hint text

abbrev pub hint_of_text : Part → Option (List ℕ) → List ℕ
hint_of_text p None = []
hint_of_text p (Some text) = address_hint p text

abbrev pub needed_hint : Key → List ℕ
needed_hint Client = codes ": at least one [[client]] is needed"
needed_hint Home = codes ": at least one [[home]] is needed"
needed_hint _ = codes ": it is needed"

abbrev pub missing_hint : Part → Key → List ℕ
missing_hint part.Top key = needed_hint key
missing_hint _ key = codes ": it is needed"

abbrev pub home_type_hint : Part → List ℕ
home_type_hint part.Top = codes ": a table for each, under the header [[home]]"
home_type_hint _ = codes ": a text in quotation marks"

abbrev pub type_hint : Part → Key → List ℕ
type_hint p Client = codes ": a table for each, under the header [[client]]"
type_hint p Realm = codes ": a table for each, under the header [[realm]]"
type_hint p Home = home_type_hint p
type_hint p Listen = codes ": a text in quotation marks"
type_hint p DefaultHome = codes ": a text in quotation marks"
type_hint p OtherHome = codes ": a text in quotation marks"
type_hint p Address = codes ": a text in quotation marks"
type_hint p Secret = codes ": a text in quotation marks"
type_hint p Name = codes ": a text in quotation marks"
type_hint p _ = codes ": a whole number without quotation marks"

abbrev pub name_hint : Part → List ℕ
name_hint part.Realm = codes ": 1 to 252 octets, none of them @"
name_hint _ = codes ": 1 to 64 letters, digits, -, _ and ."

abbrev pub range_hint : Part → Key → List ℕ
range_hint p Secret = codes ": 1 to 128 octets"
range_hint p Name = name_hint p
range_hint p Linger = codes ": 0 to 600000"
range_hint p Window = codes ": 1 to 256 x ports - 2"
range_hint p Queue = codes ": 1 to 65536"
range_hint p Book = codes ": 1 to 1000000"
range_hint p Tries = codes ": 1 to 10"
range_hint p FirstWait = codes ": 100 to 60000"
range_hint p ProbeEvery = codes ": 1000 to 600000"
range_hint p DownWait = codes ": 1000 to 3600000"
range_hint p Span = codes ": 0 to 600000"
range_hint p Ring = codes ": 1 to 4096"
range_hint p Ports = codes ": 1 to 4"
range_hint p _ = []

abbrev pub most_hint : Key → List ℕ
most_hint Home = codes ": at most 64"
most_hint _ = codes ": at most 256"

-- The hint of a fault, given the text at its key.
abbrev pub hint_text : ConfigFault → Option (List ℕ) → List ℕ
hint_text (Missing s) text = missing_hint s.part s.key
hint_text (WrongType s) text = type_hint s.part s.key
hint_text (OutOfRange s) text = range_hint s.part s.key
hint_text (UnknownHome s) text = codes ": no [[home]] has this name"
hint_text (BadAddress s) text = hint_of_text s.part text
hint_text (TooMany s) text = most_hint s.key
hint_text _ text = []

-- ---- the reports

-- What is told of a fault besides its place.
pub record FaultEntry : Type 0 where
  pub fault : ConfigFault
  pub value : List ℕ
  pub hint : List ℕ

abbrev pub shown_text : Shown → List ℕ
shown_text shown.Nothing = []
shown_text (shown.Text text) = codes ": " ++ name_text text.now
shown_text (shown.Number number) = codes ": " ++ signed_decimal number

abbrev pub entry_told : FaultReport → FaultEntry
entry_told r = record { fault = r.fault; value = shown_text r.value; hint = r.hint.now }

abbrev pub entry_of : Members → ConfigFault → FaultEntry
entry_of doc fault = record { fault = fault; value = value_text fault doc; hint = hint_text fault (text_at fault doc) }

abbrev pub entries_in : Members → List FaultEntry
entries_in doc = map (entry_of doc) (faults_in doc)

abbrev pub entries_or_none : Option Members → List FaultEntry
entries_or_none None = []
entries_or_none (Some doc) = entries_in doc

-- A text that is not TOML has none.
abbrev pub entries_in_text : List ℕ → List FaultEntry
entries_in_text text = entries_or_none (parse_document text)

-- ---- the places

-- What begins at the place of a fault: the key; or, where a key of a table is missing, the name of the table's array.
abbrev pub is_top : Part → Bool
is_top part.Top = true
is_top _ = false

abbrev pub key_sought : Option Spot → List ℕ
key_sought None = []
key_sought (Some s) = key_name s.key

abbrev pub sought : ConfigFault → List ℕ
sought (Missing s) = if is_top s.part then key_name s.key else part_name s.part
sought fault = key_sought (spot_in fault)

-- If the place of a fault is known, what is sought begins there. If that of the first one of this name is known, its key
-- begins there.
pub record IsPlacedIn (text : List ℕ) (r : FaultReport) : Type 0 where
  pub place : IfSome r.place (BeginsAtPlace text (sought r.fault))
  pub first : IfSome r.first (BeginsAtPlace text (key_sought (spot_in r.fault)))

-- ---- the printed line

abbrev pub first_text : Option TextPlace → List ℕ
first_text None = []
first_text (Some place) = codes ": the first one is at line " ++ decimal place.line

abbrev pub report_text : FaultReport → List ℕ
report_text r = fault_text r.fault ++ at_text r.place ++ shown_text r.value ++ r.hint.now ++ first_text r.first
