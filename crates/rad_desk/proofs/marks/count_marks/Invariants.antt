use Rattle.std.proofs.Common.{◌≡◌, ◌+◌, length}
use Rattle.rad_packet.specs.Attribute.{attributes_of}
use Rattle.rad_packet.specs.Packet.{packet_attributes}
use Rattle.rad_desk.specs.Marks.{marks_in}
use Rattle.rad_desk.proofs.marks.count_marks.Given as goal

-- the count so far and the count of the rest are the count of all
abbrev pub invariant-loop-attribute : goal.invariant-loop-attribute
invariant-loop-attribute l =
    l.count + length (marks_in (attributes_of l.attribute-iterator)) ≡ length (marks_in (packet_attributes l.packet))
