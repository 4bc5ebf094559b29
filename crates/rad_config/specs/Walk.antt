-- How a document is read as a configuration (own): from the top down, key by key, up to the first fault. For one key
-- the first fault is Missing, then WrongType, then that the value does not have the key's form.
use Rattle.std.specs.Prelude.{ℕ, ℤ, pos, negsuc, List, [], ◌∷◌, ◌++◌, length, Option, Some, None, option_map, ok_or, Result, Ok, Err, Bool, true, false, not, ◌&&◌, ◌||◌, ◌==◌, nat_le, position, find, is_some, if◌then◌else◌}
use Rattle.std.specs.List.{list_all}
use Rattle.std.specs.Char.{is_ascii_alphanumeric}
use Rattle.std.specs.Str.{bytes_eq}
use Rattle.toml.specs.Data.{Data, array, table, Items, no_items, item, Members, get_member, as_str, as_integer, as_array}
use Rattle.toml.specs.Parse.{parse_document}
use Rattle.rad_config.specs.declared.reading.address.Endpoint.{Endpoint}
use Rattle.rad_config.specs.declared.limits.LimitNumbers.{LimitNumbers}
use Rattle.rad_config.specs.declared.limits.LimitFault.{LimitFault}
use Rattle.rad_config.specs.declared.limits.LimitFault.TheVariants as limit
use Rattle.rad_config.specs.declared.reading.faults.Part.{Part}
use Rattle.rad_config.specs.declared.reading.faults.Part.TheVariants as part
use Rattle.rad_config.specs.declared.reading.faults.Key.{Key}
use Rattle.rad_config.specs.declared.reading.faults.Key.TheVariants.{Listen, DefaultHome, OtherHome, Linger, Client, Home, Realm, Address, Secret, Name, Window, Queue, Book, Tries, FirstWait, ProbeEvery, DownWait, Span, Ring, Ports}
use Rattle.rad_config.specs.declared.reading.faults.Spot.{Spot}
use Rattle.rad_config.specs.declared.reading.faults.ConfigFault.{ConfigFault}
use Rattle.rad_config.specs.declared.reading.faults.ConfigFault.TheVariants.{Toml, Missing, WrongType, OutOfRange, DoubleName, UnknownHome, BadAddress, TooMany}
use Rattle.rad_config.specs.Address.{address_in, endpoint_in}
use Rattle.rad_config.specs.Limits.{limits_of, first_fault}
use Rattle.rad_config.specs.Spot.{key_name}
use Rattle.rad_config.specs.Configuration.{ClientEntry, HomeEntry, RealmEntry, Configuration}
use Rattle.rad_config.specs.Realm.{same_name}

infixl 10 ◌>>=◌
abbrev pub ◌>>=◌ : {A B : Type 0} → Result A ConfigFault → (A → Result B ConfigFault) → Result B ConfigFault
(Ok x) >>= f = f x
(Err e) >>= f = Err e

-- a fault, if a test says so
abbrev pub refuse_if : Bool → ConfigFault → Result (Unit {0}) ConfigFault
refuse_if true fault = Err fault
refuse_if false fault = Ok tt

abbrev pub spot : Part → ℕ → Key → Spot
spot part index key = record { part = part; index = index; key = key }

-- ---- the forms of one key

unfoldable pub needed : Spot → Members → Result Data ConfigFault
needed s doc = ok_or (get_member (key_name s.key) doc) (Missing s)

unfoldable pub text_in : Spot → Data → Result (List ℕ) ConfigFault
text_in s value = ok_or (as_str value) (WrongType s)

unfoldable pub text_at : Spot → Members → Result (List ℕ) ConfigFault
text_at s doc = do
  value ← needed s doc
  text_in s value

unfoldable pub address_at : Spot → Members → Result (List ℕ) ConfigFault
address_at s doc = do
  text ← text_at s doc
  ok_or (address_in text) (BadAddress s)

unfoldable pub endpoint_at : Spot → Members → Result Endpoint ConfigFault
endpoint_at s doc = do
  text ← text_at s doc
  ok_or (endpoint_in text) (BadAddress s)

-- a text that passes a test
unfoldable pub text_that : (List ℕ → Bool) → Spot → Members → Result (List ℕ) ConfigFault
text_that test s doc = do
  text ← text_at s doc
  if test text then Ok text else Err (OutOfRange s)

-- from `least` to `most` octets
abbrev pub has_length : ℕ → ℕ → List ℕ → Bool
has_length least most text = nat_le least (length text) && nat_le (length text) most

unfoldable pub secret_at : Spot → Members → Result (List ℕ) ConfigFault
secret_at s doc = text_that (has_length 1 128) s doc

-- `a` to `z`, `A` to `Z`, `0` to `9`, `-`, `_`, `.`
abbrev pub is_name_octet : ℕ → Bool
is_name_octet o = is_ascii_alphanumeric o || (o == 45 || (o == 95 || o == 46))

abbrev pub is_home_name : List ℕ → Bool
is_home_name text = has_length 1 64 text && list_all is_name_octet text

unfoldable pub home_name_at : Spot → Members → Result (List ℕ) ConfigFault
home_name_at s doc = text_that is_home_name s doc

-- no `@`
abbrev pub is_realm_name : List ℕ → Bool
is_realm_name text = has_length 1 252 text && list_all (λ o. not (o == 64)) text

unfoldable pub realm_name_at : Spot → Members → Result (List ℕ) ConfigFault
realm_name_at s doc = text_that is_realm_name s doc

-- the number that an integer is, if it is from `least` to `most`
abbrev pub whole_in : ℕ → ℕ → ℤ → Option ℕ
whole_in least most (pos n) = if nat_le least n && nat_le n most then Some n else None
whole_in least most (negsuc n) = None

unfoldable pub number_in_value : ℕ → ℕ → Spot → Data → Result ℕ ConfigFault
number_in_value least most s value = do
  integer ← ok_or (as_integer value) (WrongType s)
  ok_or (whole_in least most integer) (OutOfRange s)

abbrev pub number_or : ℕ → ℕ → ℕ → Spot → Option Data → Result ℕ ConfigFault
number_or least most usual s None = Ok usual
number_or least most usual s (Some value) = number_in_value least most s value

-- a number from `least` to `most`, or the usual one if the key is absent
unfoldable pub number_at : ℕ → ℕ → ℕ → Spot → Members → Result ℕ ConfigFault
number_at least most usual s doc = number_or least most usual s (get_member (key_name s.key) doc)

abbrev pub text_or_none : Spot → Option Data → Result (Option (List ℕ)) ConfigFault
text_or_none s None = Ok None
text_or_none s (Some value) = text_in s value >>= λ text. Ok (Some text)

-- a text, or none if the key is absent
unfoldable pub optional_text_at : Spot → Members → Result (Option (List ℕ)) ConfigFault
optional_text_at s doc = text_or_none s (get_member (key_name s.key) doc)

-- the lane of the home server with this name
unfoldable pub lane_named : List HomeEntry → Spot → List ℕ → Result ℕ ConfigFault
lane_named homes s name = ok_or (position (λ h. bytes_eq h.name name) homes) (UnknownHome s)

-- ---- the tables of an array

-- the tables that the items are, if each item is a table
abbrev pub tables_in : Items → Option (List Members)
tables_in no_items = Some []
tables_in (item (table t) rest) = option_map (λ ts. t ∷ ts) (tables_in rest)
tables_in (item _ rest) = None

unfoldable pub tables_of : ℕ → Spot → Data → Result (List Members) ConfigFault
tables_of most s value = do
  items ← ok_or (as_array value) (WrongType s)
  tables ← ok_or (tables_in items) (WrongType s)
  if nat_le (length tables) most then Ok tables else Err (TooMany s)

abbrev pub is_empty_array : Data → Bool
is_empty_array (array no_items) = true
is_empty_array _ = false

-- at least one table
unfoldable pub some_tables_at : ℕ → Spot → Members → Result (List Members) ConfigFault
some_tables_at most s doc = do
  value ← needed s doc
  _ ← refuse_if (is_empty_array value) (Missing s)
  tables_of most s value

abbrev pub tables_or_none : ℕ → Spot → Option Data → Result (List Members) ConfigFault
tables_or_none most s None = Ok []
tables_or_none most s (Some value) = tables_of most s value

-- no tables if the key is absent
unfoldable pub any_tables_at : ℕ → Spot → Members → Result (List Members) ConfigFault
any_tables_at most s doc = tables_or_none most s (get_member (key_name s.key) doc)

-- the tables of a part; the top has none
abbrev pub array_of : Part → Members → Result (List Members) ConfigFault
array_of part.Top doc = Ok []
array_of part.Client doc = some_tables_at 256 (spot part.Top 0 Client) doc
array_of part.Home doc = some_tables_at 64 (spot part.Top 0 Home) doc
array_of part.Realm doc = any_tables_at 256 (spot part.Top 0 Realm) doc

-- each table in turn, given the entries of the earlier ones
unfoldable pub each : {X : Type 0} → (List X → Members → Result X ConfigFault) → List X → List Members → Result (List X) ConfigFault
each read earlier [] = Ok earlier
each read earlier (t ∷ ts) = read earlier t >>= λ x. each read (earlier ++ x ∷ []) ts

-- ---- clients, home servers, realms

unfoldable pub client_in : List ClientEntry → Members → Result ClientEntry ConfigFault
client_in earlier doc = do
  address ← address_at (spot part.Client (length earlier) Address) doc
  _ ← refuse_if (is_some (find (λ c. bytes_eq c.address address) earlier)) (DoubleName (spot part.Client (length earlier) Address))
  secret ← secret_at (spot part.Client (length earlier) Secret) doc
  Ok (record { address = address; secret = secret })

-- a number of a lane, before it is tested against its own range
abbrev pub lane_number_at : ℕ → Key → ℕ → Members → Result ℕ ConfigFault
lane_number_at index key usual doc = number_at 0 4294967295 usual (spot part.Home index key) doc

unfoldable pub numbers_at : ℕ → Members → Result LimitNumbers ConfigFault
numbers_at index doc = do
  window ← lane_number_at index Window 64 doc
  queue ← lane_number_at index Queue 4096 doc
  book ← lane_number_at index Book 100000 doc
  tries ← lane_number_at index Tries 3 doc
  first_wait ← lane_number_at index FirstWait 2000 doc
  probe_every ← lane_number_at index ProbeEvery 10000 doc
  down_wait ← lane_number_at index DownWait 60000 doc
  span ← lane_number_at index Span 30000 doc
  ring ← lane_number_at index Ring 256 doc
  ports ← lane_number_at index Ports 1 doc
  Ok (record { window = window; queue = queue; book = book; tries = tries; first_wait = first_wait; probe_every = probe_every; down_wait = down_wait; span = span; ring = ring; ports = ports })

abbrev pub limit_key : LimitFault → Key
limit_key limit.Window = Window
limit_key limit.Queue = Queue
limit_key limit.Book = Book
limit_key limit.Tries = Tries
limit_key limit.FirstWait = FirstWait
limit_key limit.ProbeEvery = ProbeEvery
limit_key limit.DownWait = DownWait
limit_key limit.Span = Span
limit_key limit.Ring = Ring
limit_key limit.Ports = Ports

abbrev pub kept_or_fault : ℕ → LimitNumbers → Option LimitFault → Result LimitNumbers ConfigFault
kept_or_fault index numbers None = Ok numbers
kept_or_fault index numbers (Some fault) = Err (OutOfRange (spot part.Home index (limit_key fault)))

unfoldable pub limits_at : ℕ → Members → Result LimitNumbers ConfigFault
limits_at index doc = do
  numbers ← numbers_at index doc
  kept_or_fault index numbers (first_fault (limits_of numbers))

unfoldable pub home_in : List HomeEntry → Members → Result HomeEntry ConfigFault
home_in earlier doc = do
  name ← home_name_at (spot part.Home (length earlier) Name) doc
  _ ← refuse_if (is_some (position (λ h. bytes_eq h.name name) earlier)) (DoubleName (spot part.Home (length earlier) Name))
  endpoint ← endpoint_at (spot part.Home (length earlier) Address) doc
  secret ← secret_at (spot part.Home (length earlier) Secret) doc
  limits ← limits_at (length earlier) doc
  Ok (record { name = name; endpoint = endpoint; secret = secret; limits = limits })

unfoldable pub realm_in_table : List HomeEntry → List RealmEntry → Members → Result RealmEntry ConfigFault
realm_in_table homes earlier doc = do
  name ← realm_name_at (spot part.Realm (length earlier) Name) doc
  _ ← refuse_if (is_some (find (λ r. same_name r.name name) earlier)) (DoubleName (spot part.Realm (length earlier) Name))
  home ← text_at (spot part.Realm (length earlier) Home) doc
  lane ← lane_named homes (spot part.Realm (length earlier) Home) home
  Ok (record { name = name; lane = lane })

-- ---- the keys at the top

abbrev pub listen_in : Members → Result Endpoint ConfigFault
listen_in doc = endpoint_at (spot part.Top 0 Listen) doc

-- the name of a home server at a key, or none if the key is absent
abbrev pub home_name_in : Key → Members → Result (Option (List ℕ)) ConfigFault
home_name_in key doc = optional_text_at (spot part.Top 0 key) doc

abbrev pub linger_in : Members → Result ℕ ConfigFault
linger_in doc = number_at 0 600000 5000 (spot part.Top 0 Linger) doc

-- ---- the whole

unfoldable pub clients_in : Members → Result (List ClientEntry) ConfigFault
clients_in doc = array_of part.Client doc >>= each client_in []

unfoldable pub homes_in : Members → Result (List HomeEntry) ConfigFault
homes_in doc = array_of part.Home doc >>= each home_in []

unfoldable pub realms_in : List HomeEntry → Members → Result (List RealmEntry) ConfigFault
realms_in homes doc = array_of part.Realm doc >>= each (realm_in_table homes) []

-- the lane of the home server that is named at a key, if one is
abbrev pub lane_at : Key → List HomeEntry → Option (List ℕ) → Result (Option ℕ) ConfigFault
lane_at key homes None = Ok None
lane_at key homes (Some name) = lane_named homes (spot part.Top 0 key) name >>= λ lane. Ok (Some lane)

unfoldable pub walk : Members → Result Configuration ConfigFault
walk doc = do
  listen ← listen_in doc
  default_home ← home_name_in DefaultHome doc
  other_home ← home_name_in OtherHome doc
  linger ← linger_in doc
  clients ← clients_in doc
  homes ← homes_in doc
  realms ← realms_in homes doc
  default_lane ← lane_at DefaultHome homes default_home
  other_lane ← lane_at OtherHome homes other_home
  Ok (record { listen = listen; linger = linger; clients = clients; homes = homes; realms = realms; default_lane = default_lane; other_lane = other_lane })

-- The configuration that a text gives, or the first fault.
unfoldable pub configuration_in : List ℕ → Result Configuration ConfigFault
configuration_in text = ok_or (parse_document text) Toml >>= walk
