-- Realms, and the lanes that they lead to. The realm of a User-Name is the part after its last `@` (RFC 7542 section
-- 2.2 has one `@` in a name; that the last one counts is own). ASCII letters are compared without case (own).
use Rattle.std.specs.Prelude.{◌≡◌, ℕ, List, [], ◌∷◌, length, map, filter, Option, Some, None, option_map, option_and_then, unwrap_or, Bool, true, false, ◌==◌, find, if◌then◌else◌}
use Rattle.std.specs.List.{slice_get}
use Rattle.std.specs.Char.{to_ascii_lowercase}
use Rattle.std.specs.Str.{bytes_eq}
use Rattle.rad_packet.specs.Packet.{packet_attributes}
use Rattle.rad_config.specs.Configuration.{ClientEntry, RealmEntry, Configuration}

-- Whether two names are the same except for the case of ASCII letters.
abbrev pub same_name : List ℕ → List ℕ → Bool
same_name a b = bytes_eq (map to_ascii_lowercase a) (map to_ascii_lowercase b)

-- The first choice, or the second if there is no first.
abbrev pub or_else : {A : Type 0} → Option A → Option A → Option A
or_else None second = second
or_else (Some first) second = Some first

-- The realm of a User-Name: the realm of the rest after its first octet, if that has one; otherwise that rest, if the
-- first octet is `@`.
unfoldable pub realm_in : List ℕ → Option (List ℕ)
realm_in [] = None
realm_in (o ∷ os) = or_else (realm_in os) (if o == 64 then Some os else None)

-- The row of a realm in the table.
abbrev pub row_of : List RealmEntry → List ℕ → Option RealmEntry
row_of table realm = find (λ r. same_name r.name realm) table

-- The lane of a realm: that of its row, or that of all other realms if it is in no row. An empty realm has no lane.
unfoldable pub lane_in : List RealmEntry → Option ℕ → List ℕ → Option ℕ
lane_in table other realm = if length realm == 0 then None else or_else (option_map (λ r. r.lane) (row_of table realm)) other

-- The lane of a realm, or the default lane if there is no realm.
abbrev pub lane_by : Configuration → Option (List ℕ) → Option ℕ
lane_by c None = c.default_lane
lane_by c (Some realm) = lane_in c.realms c.other_lane realm

-- The lane of a User-Name, or of a packet without a User-Name.
abbrev pub lane_of : Configuration → Option (List ℕ) → Option ℕ
lane_of c name = lane_by c (option_and_then realm_in name)

-- The names of the realms that lead to a lane, in the order of the table.
abbrev pub realms_of : List RealmEntry → ℕ → List (List ℕ)
realms_of table lane = map (λ r. r.name) (filter (λ r. r.lane == lane) table)

-- Whether there is a place, the list has an item at this place, and the item passes the test.
abbrev pub is_at : {A : Type 0} → (A → Bool) → List A → Option ℕ → Bool
is_at passes items place = unwrap_or (option_map passes (option_and_then (slice_get items) place)) false

-- The rank of a realm among those of the table that lead to its lane: in the list of their names, the name at this
-- place is the same as the realm's. There is no rank without a realm, nor for a realm that is in no row.
abbrev pub IsRank : List RealmEntry → ℕ → Option (List ℕ) → Option ℕ → Type 0
IsRank table lane None rank = rank ≡ None
IsRank table lane (Some realm) None = row_of table realm ≡ None
IsRank table lane (Some realm) (Some place) = is_at (λ name. same_name name realm) (realms_of table lane) (Some place) ≡ true

-- The client with an address.
abbrev pub client_of : Configuration → List ℕ → Option ClientEntry
client_of c address = find (λ k. bytes_eq k.address address) c.clients

-- The User-Name of a packet (RFC 2865 section 5.1): the Value of the first attribute of Type 1.
unfoldable pub user_name : List ℕ → Option (List ℕ)
user_name text = option_map (λ a. a.value) (find (λ a. a.kind == 1) (packet_attributes text))

-- The realm of a packet.
unfoldable pub realm_of_packet : List ℕ → Option (List ℕ)
realm_of_packet text = option_and_then realm_in (user_name text)

-- The lane of a packet.
unfoldable pub lane_of_packet : Configuration → List ℕ → Option ℕ
lane_of_packet c text = lane_by c (realm_of_packet text)
