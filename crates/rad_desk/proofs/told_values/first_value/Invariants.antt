use Rattle.std.proofs.Common.{◌≡◌}
use Rattle.rad_packet.specs.Attribute.{attributes_of}
use Rattle.rad_realms.proofs.FirstValue.{first_value as first_among}
use Rattle.rad_desk.specs.ToldValues.{first_value}
use Rattle.rad_desk.proofs.told_values.first_value.Given as goal

-- the first value in what is left is the packet's
abbrev pub invariant-loop-attribute : goal.invariant-loop-attribute
invariant-loop-attribute l = first_among l.kind (attributes_of l.attribute-iterator) ≡ first_value l.kind l.packet
