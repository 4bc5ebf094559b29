use Rattle.std.proofs.Common.{◌≡◌, ◌+◌, length}
use Rattle.rad_packet.specs.Attribute.{attributes_of, of_kind}
use Rattle.rad_packet.specs.Packet.{packet_attributes}
use Rattle.rad_packet.proofs.packet_ref.PacketRef.count_of.Given as goal

-- the count so far and the count of the rest are the count of all
abbrev pub invariant-loop-attribute : goal.invariant-loop-attribute
invariant-loop-attribute l =
    l.count + length (of_kind l.kind (attributes_of l.attribute-iterator)) ≡ length (of_kind l.kind (packet_attributes l.self))
