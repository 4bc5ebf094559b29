-- The printed names of the faults of reading and of writing a packet, and the place of an invalid attribute (own).
use Rattle.std.specs.Prelude.{ℕ, List, ◌++◌, codes}
use Rattle.std.specs.Fmt.{decimal}
use Rattle.rad_packet.specs.declared.faults.ReadFault.{ReadFault}
use Rattle.rad_packet.specs.declared.faults.ReadFault.TheVariants.{Short, BadLength, Truncated, BadAttribute}
use Rattle.rad_packet.specs.declared.faults.WriteFault.{WriteFault}
use Rattle.rad_packet.specs.declared.faults.WriteFault.TheVariants.{ValueTooLong, PacketTooLong}

-- A read fault by its name, and the place of an invalid attribute.
abbrev pub read_fault_text : ReadFault → List ℕ
read_fault_text Short = codes "Short"
read_fault_text BadLength = codes "BadLength"
read_fault_text Truncated = codes "Truncated"
read_fault_text (BadAttribute place) = codes "BadAttribute " ++ decimal place

-- A write fault by its name.
abbrev pub write_fault_text : WriteFault → List ℕ
write_fault_text ValueTooLong = codes "ValueTooLong"
write_fault_text PacketTooLong = codes "PacketTooLong"
