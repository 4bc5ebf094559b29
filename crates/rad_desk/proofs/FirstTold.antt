-- The first value of a Type in a packet.
use Rattle.std.proofs.Common.{◌≡◌, ℕ, List, refl}
use Rattle.rad_packet.specs.Packet.{packet_attributes}
use Rattle.rad_realms.proofs.FirstValue.{first_value as first_among}
use Rattle.rad_desk.specs.ToldValues.{first_value}

pub first_is : (kind : ℕ) (text : List ℕ) → first_among kind (packet_attributes text) ≡ first_value kind text
unfolding first_value
first_is kind text = refl
