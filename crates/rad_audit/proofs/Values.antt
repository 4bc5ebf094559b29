-- The Value of a packet's first attribute of a Type.
use Rattle.std.proofs.Common.{◌≡◌, ℕ, List, refl}
use Rattle.rad_packet.specs.Packet.{packet_attributes}
use Rattle.rad_realms.proofs.FirstValue.{first_value}
use Rattle.rad_audit.specs.Facts.{value_at}

pub value_is : (kind : ℕ) (text : List ℕ) → first_value kind (packet_attributes text) ≡ value_at kind text
unfolding value_at
value_is kind text = refl
