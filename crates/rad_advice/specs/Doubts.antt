-- Which parts of a configuration are hardly meant as they are (own).
use Rattle.std.specs.Prelude.{ℕ, ◌+◌, nat_lt, Bool, false, not, ◌&&◌, ◌||◌, ◌==◌, List, [], ◌∷◌, ◌++◌, length, take, codes, Option, Some, None, option_map, option_to_list, is_none, IfSome, slice_index, ◌-◌, if◌then◌else◌}
use Rattle.std.specs.List.{list_any}
use Rattle.std.specs.Str.{bytes_eq}
use Rattle.rad_config.specs.declared.reading.faults.Part.{Part}
use Rattle.rad_config.specs.declared.reading.faults.Part.TheVariants as part
use Rattle.rad_config.specs.declared.reading.faults.Key.{Key}
use Rattle.rad_config.specs.declared.reading.faults.Key.TheVariants as its
use Rattle.rad_config.specs.declared.reading.address.Endpoint.{Endpoint}
use Rattle.rad_realms.specs.Configuration.{ClientEntry, HomeEntry, RealmEntry, Configuration}
use Rattle.rad_realms.specs.Walk.{spot}
use Rattle.rad_realms.specs.Spot.{key_name}
use Rattle.rad_realms.specs.Realm.{same_name}
use Rattle.rad_advice.specs.declared.doubts.Doubt.{Doubt}
use Rattle.rad_advice.specs.declared.doubts.Doubt.TheVariants.{NoRealm, UnusedHome, SharedAddress, ExampleSecret, ControlSecret, ShortSecret, ShortSpan, AnyRealm, NullRealm, PatternRealm, TildeRealm, DottedRealm}
use Rattle.rad_advice.specs.declared.doubts.Doubtful.{Doubtful}
use Rattle.rad_advice.specs.declared.doubts.Warning.{Warning}
use Rattle.rad_advice.specs.Keys.{BeginsAtPlace}
use Rattle.rad_advice.specs.Printed.{table_text, at_text}

-- A doubt about a key.
abbrev pub about : Part → ℕ → Key → Doubt → Doubtful
about p index key doubt = record { spot = spot p index key; doubt = doubt }

-- It, if the test says so.
abbrev pub about_if : Bool → Part → ℕ → Key → Doubt → List Doubtful
about_if test p index key doubt = option_to_list (option_map (about p index key) (if test then Some doubt else None))

-- ---- secrets

-- The secrets of the installed examples that are texts to be replaced.
abbrev pub example_secrets : List (List ℕ)
example_secrets =
    codes "a long secret of this client alone"
    ∷ codes "a long secret of the other client"
    ∷ codes "a long secret of this home server"
    ∷ codes "a long secret of the partner"
    ∷ codes "one long random text for this NAS"
    ∷ codes "one long random text for this home server"
    ∷ codes "one long random text for the first NAS"
    ∷ codes "one long random text for the second NAS"
    ∷ codes "one long random text for the third NAS"
    ∷ codes "one long random text for billing"
    ∷ codes "one long random text for the partner"
    ∷ codes "one long random text for roaming"
    ∷ []

-- An ASCII control character: below 32, or 127.
abbrev pub is_control : ℕ → Bool
is_control octet = nat_lt octet 32 || octet == 127

abbrev pub secret_doubt : List ℕ → Option Doubt
secret_doubt secret =
    if list_any (λ example. bytes_eq example secret) example_secrets then Some ExampleSecret
    else if list_any is_control secret then Some ControlSecret
    else if nat_lt (length secret) 8 then Some ShortSecret
    else None

abbrev pub secret_doubts : Part → ℕ → List ℕ → List Doubtful
secret_doubts p index secret = option_to_list (option_map (about p index its.Secret) (secret_doubt secret))

abbrev pub client_doubts : ℕ → ClientEntry → List Doubtful
client_doubts index client = secret_doubts part.Client index client.secret

-- ---- home servers

-- No realm is listed, and there is no lane for requests without a realm or for all other realms.
abbrev pub leads_nowhere : Configuration → Bool
leads_nowhere c = length c.realms == 0 && is_none c.default_lane && is_none c.other_lane

abbrev pub is_default : Option ℕ → ℕ → Bool
is_default None lane = false
is_default (Some default) lane = default == lane

-- No listed realm leads to this lane, and neither requests without a realm nor all other realms do, though something
-- leads to a lane.
abbrev pub is_unused : Configuration → ℕ → Bool
is_unused c lane =
    not (leads_nowhere c)
    && not (list_any (λ r. r.lane == lane) c.realms || is_default c.default_lane lane || is_default c.other_lane lane)

abbrev pub is_shared : List HomeEntry → Endpoint → Bool
is_shared earlier endpoint = list_any (λ h. h.endpoint.port == endpoint.port && bytes_eq h.endpoint.address endpoint.address) earlier

unfoldable pub home_doubts : Configuration → ℕ → HomeEntry → List Doubtful
home_doubts c index home =
    about_if (is_unused c index) part.Home index its.Name UnusedHome
    ++ (about_if (is_shared (take index c.homes) home.endpoint) part.Home index its.Address SharedAddress
    ++ (secret_doubts part.Home index home.secret
    ++ about_if (nat_lt home.limits.span 5000) part.Home index its.Span ShortSpan))

-- ---- realms

-- The last octet of a name, which is not empty.
abbrev pub last_octet : List ℕ → ℕ
last_octet name = slice_index name (length name - 1)

-- The names that other proxies take for all realms: `*`, and `DEFAULT` in letters of either case.
abbrev pub means_any : List ℕ → Bool
means_any name = same_name name (codes "*") || same_name name (codes "default")

abbrev pub realm_doubt : List ℕ → Option Doubt
realm_doubt name =
    if length name == 0 then None
    else if means_any name then Some AnyRealm
    else if same_name name (codes "null") then Some NullRealm
    else if slice_index name 0 == 47 then Some PatternRealm
    else if slice_index name 0 == 126 then Some TildeRealm
    else if last_octet name == 46 then Some DottedRealm
    else None

abbrev pub realm_doubts : ℕ → RealmEntry → List Doubtful
realm_doubts index realm = option_to_list (option_map (about part.Realm index its.Name) (realm_doubt realm.name))

-- ---- the whole

-- The doubts about each item in turn, the first of which has this index.
unfoldable pub each_doubt : {X : Type 0} → (ℕ → X → List Doubtful) → ℕ → List X → List Doubtful
each_doubt doubts index [] = []
each_doubt doubts index (x ∷ xs) = doubts index x ++ each_doubt doubts (index + 1) xs

-- The doubts about a configuration: that nothing leads anywhere; then about each client, each home server and each
-- realm, and of one table in the order of its keys.
unfoldable pub doubts_in : Configuration → List Doubtful
doubts_in c =
    about_if (leads_nowhere c) part.Top 0 its.Realm NoRealm
    ++ (each_doubt client_doubts 0 c.clients ++ (each_doubt (home_doubts c) 0 c.homes ++ each_doubt realm_doubts 0 c.realms))

-- ---- what is told

abbrev pub doubtful_told : Warning → Doubtful
doubtful_told w = w.doubtful

-- If its place is known, the key begins there.
abbrev pub IsWarnedIn : List ℕ → Warning → Type 0
IsWarnedIn text w = IfSome w.place (BeginsAtPlace text (key_name w.doubtful.spot.key))

-- The event of the log.
abbrev pub event_name : Doubt → List ℕ
event_name NoRealm = codes "no-realm"
event_name UnusedHome = codes "unused-home"
event_name SharedAddress = codes "shared-address"
event_name ExampleSecret = codes "weak-secret"
event_name ControlSecret = codes "weak-secret"
event_name ShortSecret = codes "weak-secret"
event_name ShortSpan = codes "short-span"
event_name AnyRealm = codes "realm-name"
event_name NullRealm = codes "realm-name"
event_name TildeRealm = codes "realm-name"
event_name PatternRealm = codes "realm-name"
event_name DottedRealm = codes "realm-name"

abbrev pub doubt_text : Doubt → List ℕ
doubt_text NoRealm = codes "no realm and no default_home, so each request is dropped"
doubt_text UnusedHome = codes "no realm and no default_home lead to it"
doubt_text SharedAddress = codes "an earlier home server has this address and port"
doubt_text ExampleSecret = codes "an example has this secret"
doubt_text ControlSecret = codes "it has a control character, as a backslash makes one in quotation marks"
doubt_text ShortSecret = codes "it has fewer than 8 octets"
doubt_text ShortSpan = codes "below 5000 ms, so a late repeat is sent on as a new request"
doubt_text AnyRealm = codes "a realm of this name, not each realm: other_home takes all that are not listed"
doubt_text NullRealm = codes "a realm of this name: default_home takes names without a realm, other_home all realms that are not listed"
doubt_text TildeRealm = codes "it begins with ~, but a realm is a name, not a pattern: other_home takes all that are not listed"
doubt_text PatternRealm = codes "it begins with /, but a realm is a name, not a pattern"
doubt_text DottedRealm = codes "it ends with a dot, as hardly a user's realm does"

abbrev pub warning_text : Warning → List ℕ
warning_text w =
    table_text w.doubtful.spot.part w.doubtful.spot.index ++ key_name w.doubtful.spot.key ++ at_text w.place ++ codes ": " ++ doubt_text w.doubtful.doubt
