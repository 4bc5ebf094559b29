use Rattle.std.proofs.Common.{length, drop, ap, arith, eq-eqb, length-drop}
use Rattle.std.proofs.lemmas.Bool.{ne_eqb}
use Rattle.rad_packet.specs.Attribute.{of_kind}
use Rattle.rad_packet.specs.Item.{attribute_at}
use Rattle.rad_packet.proofs.Walk.{count_this, count_other, count_small}
use Rattle.rad_packet.proofs.packet_ref.PacketRef.count_of.Goals as goal

pub loop-attribute-init : goal.loop-attribute-init
loop-attribute-init c =
    rw (c.into_iter-attribute-iterator.ensures.into_iter_gives, c.attributes-attribute-items.ensures.attributes) (omega arith)

pub overflow_add-count : goal.overflow_add-count
overflow_add-count c =
    omega (arith, c.loop-attribute.invariant, count_this c.args.kind c.loop-attribute.attribute-iterator c.next.new.self (attribute_at c.in-Some.attribute) c.in-Some.ensures.steps (eq-eqb _ _ c.if-attribute-kind.true), count_small c.args.kind (drop 20 c.args.self.now), length-drop 20 c.args.self.now, c.attributes-attribute-items.ensures.packet.most)

pub loop-attribute-preserved : goal.loop-attribute-preserved
loop-attribute-preserved c =
    omega (arith, c.loop-attribute.invariant, count_other c.args.kind c.loop-attribute.attribute-iterator c.next.new.self (attribute_at c.in-Some.attribute) c.in-Some.ensures.steps (ne_eqb _ _ c.if-attribute-kind.false))

pub returns : goal.returns
returns c = omega (arith, c.loop-attribute.invariant, ap (λ xs. length (of_kind c.args.kind xs)) c.in-None.ensures.steps.0)
