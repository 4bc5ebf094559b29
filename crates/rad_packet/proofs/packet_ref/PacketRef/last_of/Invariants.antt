use Rattle.rad_packet.proofs.Walk.{Seen}
use Rattle.rad_packet.proofs.packet_ref.PacketRef.last_of.Given as goal

abbrev pub invariant-loop-attribute : goal.invariant-loop-attribute
invariant-loop-attribute l = Seen l.kind l.self l.attribute-iterator l.place l.last
