-- The keys of a configuration that are not read (own): in the tables of each part, those that the walk over a document
-- does not look for. Keys inside the value of such a key are not read either, and are not reported separately.
use Rattle.std.specs.Prelude.{◌≡◌, ℕ, ◌+◌, ◌≤◌, Bool, if◌then◌else◌, List, [], ◌∷◌, ◌++◌, length, map, drop, Option, Some, None, option_map, option_and_then, unwrap_or, IfSome}
use Rattle.std.specs.List.{list_any}
use Rattle.std.specs.Str.{bytes_eq}
use Rattle.toml_parser.specs.Strings.{Key as Parts, key}
use Rattle.toml.specs.Data.{Items, no_items, item, Members, no_members, member, get_member, as_array, as_table}
use Rattle.toml.specs.Parse.{parse_document}
use Rattle.rad_config.specs.declared.reading.faults.Part.{Part}
use Rattle.rad_config.specs.declared.reading.faults.Part.TheVariants as part
use Rattle.rad_config.specs.declared.reading.faults.Key.{Key}
use Rattle.rad_config.specs.declared.reading.faults.Key.TheVariants.{Listen, DefaultHome, OtherHome, Linger, Client, Home, Realm, Address, Secret, Name, Window, Queue, Book, Tries, FirstWait, ProbeEvery, DownWait, Span, Ring, Ports}
use Rattle.rad_realms.specs.Spot.{key_name}
use Rattle.rad_advice.specs.declared.unread.Unread.{Unread}
use Rattle.rad_advice.specs.declared.unread.UnreadKey.{UnreadKey}
use Rattle.rad_advice.specs.declared.place.TextPlace.{TextPlace}
use Rattle.rad_advice.specs.Place.{place_at}
use Rattle.rad_advice.specs.Telling.{is_near_one_of}

-- The keys that are read in the tables of a part.
abbrev pub read_keys : Part → List Key
read_keys part.Top = Listen ∷ DefaultHome ∷ OtherHome ∷ Linger ∷ Client ∷ Home ∷ Realm ∷ []
read_keys part.Client = Address ∷ Secret ∷ []
read_keys part.Home = Name ∷ Address ∷ Secret ∷ Window ∷ Queue ∷ Book ∷ Tries ∷ FirstWait ∷ ProbeEvery ∷ DownWait ∷ Span ∷ Ring ∷ Ports ∷ []
read_keys part.Realm = Name ∷ Home ∷ []

-- Whether a name is one of `names`.
abbrev pub is_one_of : List (List ℕ) → List ℕ → Bool
is_one_of names name = list_any (λ n. bytes_eq n name) names

-- The names of the keys that are read in the tables of a part.
abbrev pub read_names : Part → List (List ℕ)
read_names p = map key_name (read_keys p)

-- A key in a table of a part: the part, the index of the table, and the key's name.
pub record UnreadEntry : Type 0 where
  pub part : Part
  pub index : ℕ
  pub name : List ℕ

-- The entry of a key, unless its name is one of `names`.
abbrev pub unless_read : Part → ℕ → List (List ℕ) → List ℕ → List UnreadEntry
unless_read p index names name = if is_one_of names name then [] else record { part = p; index = index; name = name } ∷ []

-- The entries of the keys of a table whose names are not among `names`.
abbrev pub unread_in_table : Part → ℕ → List (List ℕ) → Members → List UnreadEntry
unread_in_table p index names no_members = []
unread_in_table p index names (member name value rest) = unless_read p index names name ++ unread_in_table p index names rest

-- The same for the values of an array, the first of which has this index. A value that is not a table has no keys.
abbrev pub unread_in_items : Part → ℕ → List (List ℕ) → Items → List UnreadEntry
unread_in_items p index names no_items = []
unread_in_items p index names (item value rest) =
    unread_in_table p index names (unwrap_or (as_table value) no_members) ++ unread_in_items p (index + 1) names rest

-- The values of the array at a key. There are none if the key is absent or its value is not an array.
abbrev pub items_at : List ℕ → Members → Items
items_at name doc = unwrap_or (option_and_then as_array (get_member name doc)) no_items

unfoldable pub unread_in_part : Part → Key → Members → List UnreadEntry
unread_in_part p k doc = unread_in_items p 0 (read_names p) (items_at (key_name k) doc)

-- The keys of a document that are not read: those of the top, then those of each client, of each home server and of
-- each realm.
unfoldable pub unread_in : Members → List UnreadEntry
unread_in doc =
    unread_in_table part.Top 0 (read_names part.Top) doc
    ++ (unread_in_part part.Client Client doc ++ (unread_in_part part.Home Home doc ++ unread_in_part part.Realm Realm doc))

-- A text that is not TOML has none.
abbrev pub unread_or_none : Option Members → List UnreadEntry
unread_or_none None = []
unread_or_none (Some doc) = unread_in doc

abbrev pub unread_in_text : List ℕ → List UnreadEntry
unread_in_text text = unread_or_none (parse_document text)

-- The entry of a key that was found in a document, and of one that is listed.
abbrev pub entry_found : Unread → UnreadEntry
entry_found k = record { part = k.part; index = k.index; name = k.name.now }

abbrev pub entry_listed : UnreadKey → UnreadEntry
entry_listed k = entry_found k.key

-- The first part of a key.
abbrev pub first_part : Parts → List ℕ
first_part ([], last) = last
first_part (first ∷ path, last) = first

-- A key whose first part has this name begins at an offset of the text.
abbrev pub BeginsAt : List ℕ → ℕ → List ℕ → Type 0
BeginsAt name offset text = option_map (λ k. first_part k.0) (key (drop offset text)) ≡ Some name

-- The place is that of an offset at which such a key begins.
abbrev pub BeginsAtPlace : List ℕ → List ℕ → TextPlace → Type 0
BeginsAtPlace text name place = (offset : ℕ) × (offset ≤ length text) × BeginsAt name offset text × (place ≡ place_at offset text)

-- If a key's place is known, a key whose first part has its name begins there. Its name is told if it is near that of a key
-- that is read in its table.
pub record IsReportedIn (text : List ℕ) (k : UnreadKey) : Type 0 where
  pub place : IfSome k.place (BeginsAtPlace text k.key.name.now)
  pub near : k.is_near ≡ is_near_one_of (read_names k.key.part) k.key.name.now
