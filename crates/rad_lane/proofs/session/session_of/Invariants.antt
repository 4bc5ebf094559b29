use Rattle.std.proofs.Common.{◌≡◌}
use Rattle.rad_packet.specs.Attribute.{attributes_of}
use Rattle.rad_realms.proofs.FirstValue.{first_value}
use Rattle.rad_lane.specs.Session.{session_id}
use Rattle.rad_lane.proofs.session.session_of.Given as goal

-- the first session of what is left is the packet's
abbrev pub invariant-loop-attribute : goal.invariant-loop-attribute
invariant-loop-attribute l = first_value 44 (attributes_of l.attribute-iterator) ≡ session_id l.packet
