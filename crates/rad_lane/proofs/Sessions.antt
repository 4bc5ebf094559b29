-- The session of a packet.
use Rattle.std.proofs.Common.{◌≡◌, ℕ, List, refl}
use Rattle.rad_packet.specs.Packet.{packet_attributes}
use Rattle.rad_realms.proofs.FirstValue.{first_value}
use Rattle.rad_lane.specs.Session.{session_id}

pub session_is : (text : List ℕ) → first_value 44 (packet_attributes text) ≡ session_id text
unfolding session_id
session_is text = refl
