use Rattle.std.proofs.Common.{ap, ◌∙◌}
use Rattle.rad_packet.specs.Attribute.{attributes_of}
use Rattle.rad_realms.proofs.UserNames.{unsigned_none}
use Rattle.rad_realms.proofs.checking.unsigned_name_of.Goals as goal

pub loop-attribute-init : goal.loop-attribute-init
loop-attribute-init c =
    unsigned_none _ _ (ap attributes_of (c.into_iter-attribute-iterator.ensures.into_iter_gives ∙ c.attributes-attribute-items.ensures.attributes))
