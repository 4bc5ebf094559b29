-- The UDP ports that the sockets of the lanes are bound to (own).
use Rattle.std.specs.Prelude.{ℕ, ◌+◌, ◌%◌, ◌-◌, ◌<◌, ◌≤◌, List, [], ◌∷◌, codes, Option, Some, None, Bool, ◌&&◌, ◌||◌, ◌==◌, nat_lt, nat_le, if◌then◌else◌, Result, Ok, Err, ◌⊎◌}
use Rattle.std.specs.List.{list_any, filter_map, slice_split}
use Rattle.std.specs.Str.{trim_end}
use Rattle.rad_config.specs.Address.{◌>>=◌, number_in, around_first}
use Rattle.rad_server.specs.declared.sockets.port_range.PortRange.{PortRange}
use Rattle.rad_server.specs.declared.sockets.port_range.PortsFault.{PortsFault}
use Rattle.rad_server.specs.declared.sockets.port_range.PortsFault.TheVariants.{NoText, NoRange, TooFew}

-- A range is from its first port to its last one.
abbrev pub range_of : ℕ → ℕ → Option PortRange
range_of first last = if nat_le first last then Some (record { first = first; last = last }) else None

-- Two numbers from `least` to 65535 around a sign.
unfoldable pub range_around : ℕ → ℕ → List ℕ → Option PortRange
range_around least sign text = do
  parts ← around_first sign text
  first ← number_in least 65535 parts.0
  last ← number_in least 65535 parts.1
  range_of first last

abbrev pub port_count : PortRange → ℕ
port_count range = range.last - range.first + 1

abbrev pub holds : PortRange → ℕ → Bool
holds range port = nat_le range.first port && nat_le port range.last

-- The range to which a value of RAD_PROXY_SOURCE_PORTS pins the sockets, of which there are so many: FIRST-LAST. An empty
-- value pins none.
abbrev pub with_enough : ℕ → Option PortRange → Result (Option PortRange) PortsFault
with_enough needed None = Err NoRange
with_enough needed (Some range) =
    if nat_lt (port_count range) needed then Err (TooFew (port_count range) needed) else Ok (Some range)

abbrev pub pinned_by : List ℕ → ℕ → Result (Option PortRange) PortsFault
pinned_by [] needed = Ok None
pinned_by (octet ∷ text) needed = with_enough needed (range_around 1 45 (octet ∷ text))

-- Why it pins them to none.
abbrev pub fault_words : PortsFault → List ℕ
fault_words NoText = codes "RAD_PROXY_SOURCE_PORTS is no text"
fault_words NoRange = codes "RAD_PROXY_SOURCE_PORTS is no FIRST-LAST of ports from 1 to 65535"
fault_words (TooFew ports needed) = codes "RAD_PROXY_SOURCE_PORTS has fewer ports than the lanes need"

-- The range from which Linux chooses a port, by its text of ip_local_port_range: two numbers around a tab. If the text is no
-- such one, the range that Linux has unless it is set otherwise.
abbrev pub or_usual : Option PortRange → PortRange
or_usual (Some range) = range
or_usual None = record { first = 32768; last = 60999 }

abbrev pub range_of_system : List ℕ → PortRange
range_of_system text = or_usual (range_around 1 9 (trim_end text))

-- The ranges in Linux's text of ip_local_reserved_ports: ports and ranges of ports, with commas between them.
abbrev pub single_or : Option ℕ → Option PortRange → Option PortRange
single_or (Some port) range = Some (record { first = port; last = port })
single_or None range = range

unfoldable pub reserved_item : List ℕ → Option PortRange
reserved_item text = single_or (number_in 0 65535 text) (range_around 0 45 text)

abbrev pub reserved_in : List ℕ → List PortRange
reserved_in text = filter_map reserved_item (slice_split (λ octet. octet == 44) (trim_end text))

-- The usual ports of RADIUS.
unfoldable pub is_usual : ℕ → Bool
is_usual port =
    port == 1645 || (port == 1646 || (port == 1700 || (port == 1812 || (port == 1813 || (port == 1814 || (port == 2083 || port == 3799))))))

-- The ports that are left to others: these, and those of some ranges.
abbrev pub is_kept : List PortRange → ℕ → Bool
is_kept ranges port = is_usual port || list_any (λ range. holds range port) ranges

-- How many ports are below the system's range, without those of root, and how many above it are tried: all if there are fewer
-- than 8192 below.
abbrev pub below : PortRange → ℕ
below system = system.first - 1024

abbrev pub top : PortRange → ℕ
top system = if nat_lt system.last 1023 then 1023 else system.last

abbrev pub above : PortRange → ℕ
above system = if nat_lt (below system) 8192 then 65535 - top system else 0

-- The port at a place among these.
abbrev pub placed : PortRange → ℕ → ℕ
placed system place = if nat_lt place (below system) then 1024 + place else top system + 1 + (place - below system)

-- A port outside of the system's range.
abbrev pub IsOutside : PortRange → ℕ → Type 0
IsOutside system port = (1024 ≤ port) × (port ≤ 65535) × ((port < system.first) ⊎ (system.last < port))

-- The port that a random number chooses, if there is one: each place is as likely as any other one.
abbrev pub candidate : PortRange → ℕ → Option ℕ
candidate system random =
    let places = below system + above system in
    if places == 0 then None else Some (placed system (random % places))
