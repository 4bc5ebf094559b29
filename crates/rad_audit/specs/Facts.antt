-- What a row tells of packets.
-- The attributes are of RFC 2866 section 5, gigawords of RFC 2869 sections 5.1 and 5.2. Of each Type the first one counts.
use Rattle.std.specs.Prelude.{ℕ, ◌+◌, ◌*◌, ◌^◌, ◌==◌, if◌then◌else◌, List, length, Option, Some, None, find, option_map}
use Rattle.std.specs.Int.{w32, from_be_bytes}
use Rattle.std.specs.Option.{option_and_then}
use Rattle.rad_packet.specs.Packet.{packet_attributes}

-- The Value of a packet's first attribute of a Type.
unfoldable pub value_at : ℕ → List ℕ → Option (List ℕ)
value_at kind packet = option_map (λ a. a.value) (find (λ a. a.kind == kind) (packet_attributes packet))

-- The number in a Value of four octets, the most significant first (RFC 2865 section 5). Any other Value has none.
abbrev pub number_of : List ℕ → Option ℕ
number_of value = if length value == 4 then Some (from_be_bytes w32 value) else None

-- The number in a packet's first attribute of a Type.
abbrev pub number_at : ℕ → List ℕ → Option ℕ
number_at kind packet = option_and_then number_of (value_at kind packet)

-- The number of gigawords in a Value; none is 0.
abbrev pub gigawords_of : Option (List ℕ) → Option ℕ
gigawords_of None = Some 0
gigawords_of (Some value) = number_of value

-- How many octets a packet counts: 2^32 times its gigawords, of the first of these Types, and its octets, of the second.
abbrev pub octets_at : ℕ → ℕ → List ℕ → Option ℕ
octets_at gigawords octets packet =
    option_and_then (λ low. option_map (λ high. 2 ^ 32 * high + low) (gigawords_of (value_at gigawords packet))) (number_at octets packet)
