use Rattle.std.proofs.Common.{◌≡◌}
use Rattle.rad_packet.specs.Attribute.{attributes_of}
use Rattle.rad_config.specs.Realm.{user_name}
use Rattle.rad_realms.proofs.FirstValue.{first_value}
use Rattle.rad_realms.proofs.checking.user_name_of.Given as goal

-- the first name of what is left is the packet's
abbrev pub invariant-loop-attribute : goal.invariant-loop-attribute
invariant-loop-attribute l = first_value 1 (attributes_of l.attribute-iterator) ≡ user_name l.packet
