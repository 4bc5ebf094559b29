-- All faults of a document (own), where the walk stops at the first: those of each key, one for all numbers of a home
-- server, in the order of the walk. A key has one fault at most.
use Rattle.std.specs.Prelude.{ℕ, ◌+◌, List, [], ◌∷◌, ◌++◌, Option, Some, None, option_map, option_and_then, option_to_list, unwrap_or, Result, Ok, Err, Bool, false, not, if◌then◌else◌}
use Rattle.std.specs.Result.{result_err}
use Rattle.std.specs.List.{list_any}
use Rattle.std.specs.Str.{bytes_eq, str_eq_ignore_ascii_case}
use Rattle.toml.specs.Data.{Members, get_member, as_str}
use Rattle.rad_config.specs.declared.reading.faults.Part.{Part}
use Rattle.rad_config.specs.declared.reading.faults.Part.TheVariants as part
use Rattle.rad_config.specs.declared.reading.faults.Key.{Key}
use Rattle.rad_config.specs.declared.reading.faults.Key.TheVariants.{DefaultHome, OtherHome, Home, Address, Secret, Name}
use Rattle.rad_config.specs.declared.reading.faults.Spot.{Spot}
use Rattle.rad_config.specs.declared.reading.faults.ConfigFault.{ConfigFault}
use Rattle.rad_config.specs.declared.reading.faults.ConfigFault.TheVariants.{DoubleName, UnknownHome}
use Rattle.rad_config.specs.Realm.{or_else}
use Rattle.rad_config.specs.Spot.{key_name}
use Rattle.rad_config.specs.Walk.{spot, address_at, endpoint_at, secret_at, text_at, home_name_at, realm_name_at, limits_at, array_of, listen_in, home_name_in, linger_in}

-- The text at a key, if there is one.
abbrev pub text_of : Key → Members → Option (List ℕ)
text_of key doc = option_and_then as_str (get_member (key_name key) doc)

-- Whether there is a text, and it passes the test.
abbrev pub is_text : (List ℕ → Bool) → Option (List ℕ) → Bool
is_text test text = unwrap_or (option_map test text) false

-- Whether two texts are one name or address in the tables of a part. Realms are compared without case.
abbrev pub is_same : Part → List ℕ → List ℕ → Bool
is_same part.Top a b = bytes_eq a b
is_same part.Client a b = bytes_eq a b
is_same part.Home a b = bytes_eq a b
is_same part.Realm a b = str_eq_ignore_ascii_case a b

-- Whether one of the tables of a part has this text at the key.
abbrev pub is_among : Part → List Members → Key → List ℕ → Bool
is_among p tables key text = list_any (λ t. is_text (λ other. is_same p other text) (text_of key t)) tables

-- The fault of a reading; or else this one, if the test says so.
abbrev pub or_if : Option ConfigFault → Bool → ConfigFault → Option ConfigFault
or_if fault test other = or_else fault (if test then Some other else None)

-- ---- one table, given its index and the earlier tables of its part

-- The fault of a key that no two tables of a part have with the same text: that of its form, or else DoubleName.
abbrev pub name_fault : Option ConfigFault → Spot → List Members → Members → Option ConfigFault
name_fault form s earlier doc = or_if form (is_text (is_among s.part earlier s.key) (text_of s.key doc)) (DoubleName s)

unfoldable pub client_faults : ℕ → List Members → Members → List ConfigFault
client_faults index earlier doc =
    let s = spot part.Client index Address in
    option_to_list (name_fault (result_err (address_at s doc)) s earlier doc)
    ++ option_to_list (result_err (secret_at (spot part.Client index Secret) doc))

unfoldable pub home_faults : ℕ → List Members → Members → List ConfigFault
home_faults index earlier doc =
    let s = spot part.Home index Name in
    option_to_list (name_fault (result_err (home_name_at s doc)) s earlier doc)
    ++ (option_to_list (result_err (endpoint_at (spot part.Home index Address) doc))
    ++ (option_to_list (result_err (secret_at (spot part.Home index Secret) doc))
    ++ option_to_list (result_err (limits_at index doc))))

-- No table of `homes` has the name.
abbrev pub is_unknown : List Members → Option (List ℕ) → Bool
is_unknown homes name = is_text (λ text. not (is_among part.Home homes Name text)) name

abbrev pub home_fault : Spot → List Members → Members → Option ConfigFault
home_fault s homes doc = or_if (result_err (text_at s doc)) (is_unknown homes (text_of s.key doc)) (UnknownHome s)

unfoldable pub realm_faults : List Members → ℕ → List Members → Members → List ConfigFault
realm_faults homes index earlier doc =
    let s = spot part.Realm index Name in
    option_to_list (name_fault (result_err (realm_name_at s doc)) s earlier doc)
    ++ option_to_list (home_fault (spot part.Realm index Home) homes doc)

abbrev pub table_faults : Part → List Members → ℕ → List Members → Members → List ConfigFault
table_faults part.Top homes index earlier doc = []
table_faults part.Client homes index earlier doc = client_faults index earlier doc
table_faults part.Home homes index earlier doc = home_faults index earlier doc
table_faults part.Realm homes index earlier doc = realm_faults homes index earlier doc

-- ---- the tables of a part, each in turn

unfoldable pub each_faults : Part → List Members → ℕ → List Members → List Members → List ConfigFault
each_faults p homes index earlier [] = []
each_faults p homes index earlier (t ∷ ts) = table_faults p homes index earlier t ++ each_faults p homes (index + 1) (earlier ++ t ∷ []) ts

-- Where the array has a fault, that of the array alone.
abbrev pub array_faults : Part → List Members → Result (List Members) ConfigFault → List ConfigFault
array_faults p homes (Ok tables) = each_faults p homes 0 [] tables
array_faults p homes (Err fault) = fault ∷ []

abbrev pub tables_or_empty : Result (List Members) ConfigFault → List Members
tables_or_empty (Ok tables) = tables
tables_or_empty (Err fault) = []

-- ---- the whole

abbrev pub home_tables : Members → List Members
home_tables doc = tables_or_empty (array_of part.Home doc)

unfoldable pub part_faults : Part → Members → List ConfigFault
part_faults p doc = array_faults p (home_tables doc) (array_of p doc)

unfoldable pub top_faults : Members → List ConfigFault
top_faults doc =
    option_to_list (result_err (listen_in doc))
    ++ (option_to_list (result_err (home_name_in DefaultHome doc))
    ++ (option_to_list (result_err (home_name_in OtherHome doc))
    ++ option_to_list (result_err (linger_in doc))))

-- A key at the top names a home server that is not there.
unfoldable pub unknown_faults : Key → Members → List ConfigFault
unknown_faults key doc =
    option_to_list (or_if None (is_unknown (home_tables doc) (text_of key doc)) (UnknownHome (spot part.Top 0 key)))

unfoldable pub faults_in : Members → List ConfigFault
faults_in doc =
    top_faults doc
    ++ (part_faults part.Client doc ++ (part_faults part.Home doc ++ (part_faults part.Realm doc
    ++ (unknown_faults DefaultHome doc ++ unknown_faults OtherHome doc))))

abbrev pub first_of : List ConfigFault → Option ConfigFault
first_of [] = None
first_of (f ∷ fs) = Some f
