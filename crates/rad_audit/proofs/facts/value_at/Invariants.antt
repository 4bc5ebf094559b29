use Rattle.std.proofs.Common.{◌≡◌}
use Rattle.rad_packet.specs.Attribute.{attributes_of}
use Rattle.rad_realms.proofs.FirstValue.{first_value}
use Rattle.rad_audit.specs.Facts.{value_at}
use Rattle.rad_audit.proofs.facts.value_at.Given as goal

-- the first value of what is left is the packet's
abbrev pub invariant-loop-attribute : goal.invariant-loop-attribute
invariant-loop-attribute l = first_value l.kind (attributes_of l.attribute-iterator) ≡ value_at l.kind l.packet
