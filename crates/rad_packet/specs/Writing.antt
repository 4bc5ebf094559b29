-- Why an attribute with this Value is not appended to a packet: the Value is longer than 253 octets (RFC 2865 section
-- 5); otherwise, the packet would be longer than 4096 octets (RFC 2865 section 3).
use Rattle.std.specs.Prelude.{ℕ, ◌+◌, ◌<◌, ◌≤◌, List, length}
use Rattle.rad_packet.specs.declared.faults.WriteFault.{WriteFault}
use Rattle.rad_packet.specs.declared.faults.WriteFault.TheVariants.{ValueTooLong, PacketTooLong}

abbrev pub RefusesValue : List ℕ → List ℕ → WriteFault → Type 0
RefusesValue text value ValueTooLong = 253 < length value
RefusesValue text value PacketTooLong = (length value ≤ 253) × (4096 < length text + (length value + 2))
