use Rattle.rad_packet.proofs.Walk.{NoneSeen}
use Rattle.rad_packet.proofs.packet_ref.PacketRef.first_of.Given as goal

abbrev pub invariant-loop-attribute : goal.invariant-loop-attribute
invariant-loop-attribute l = NoneSeen l.kind l.self l.attribute-iterator l.place
