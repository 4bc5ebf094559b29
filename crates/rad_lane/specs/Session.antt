-- The session of a request (RFC 2866 section 5.5).
use Rattle.std.specs.Prelude.{ℕ, ◌==◌, List, Option, option_map, find}
use Rattle.rad_packet.specs.Packet.{packet_attributes}

-- The session of a packet: the Value of its first Acct-Session-Id, Type 44.
unfoldable pub session_id : List ℕ → Option (List ℕ)
session_id text = option_map (λ a. a.value) (find (λ a. a.kind == 44) (packet_attributes text))
