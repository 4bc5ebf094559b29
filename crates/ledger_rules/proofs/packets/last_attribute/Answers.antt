use Rattle.std.proofs.Common.{◌∙◌}
use Rattle.ledger_rules.proofs.Last.{seen_none, seen_more, seen_all}
use Rattle.ledger_rules.proofs.packets.last_attribute.Goals as goal

pub loop-attribute-init : goal.loop-attribute-init
loop-attribute-init c = seen_none c.args.packet.now _ (c.into_iter-attribute-iterator.ensures.into_iter_gives ∙ c.attributes-attribute-items.ensures.attributes)

pub loop-attribute-preserved : goal.loop-attribute-preserved
loop-attribute-preserved c =
    seen_more c.args.packet.now c.loop-attribute.attribute-iterator c.next.new.self c.loop-attribute.last c.in-Some.attribute c.loop-attribute.invariant c.in-Some.ensures.steps

pub returns : goal.returns
returns c = seen_all c.args.packet.now c.loop-attribute.attribute-iterator c.loop-attribute.last c.loop-attribute.invariant c.in-None.ensures.steps.0
