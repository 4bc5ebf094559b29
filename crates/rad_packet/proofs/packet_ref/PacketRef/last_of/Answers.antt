use Rattle.std.proofs.Common.{◌+◌, ◌≤◌, [], length, refl, ◌∙◌, arith}
use Rattle.std.proofs.lemmas.Bool.{ne_eqb}
use Rattle.rad_packet.specs.Item.{attribute_at}
use Rattle.rad_packet.proofs.Walk.{walked_none, seen_within, seen_this, seen_other, seen_all, last_within}
use Rattle.rad_packet.proofs.packet_ref.PacketRef.last_of.Goals as goal
use Rattle.rad_packet.proofs.packet_ref.PacketRef.last_of.Goals.{then-attribute-kind, else-attribute-kind}

pub loop-attribute-init : goal.loop-attribute-init
loop-attribute-init c = record {
  before = [];
  walked = walked_none c.args.self.now _ (c.into_iter-attribute-iterator.ensures.into_iter_gives ∙ c.attributes-attribute-items.ensures.attributes);
  none = refl;
}

pub overflow_add-place : goal.overflow_add-place
overflow_add-place c =
    let within : c.loop-attribute.place + (2 + length c.in-Some.attribute.value.now) ≤ length c.args.self.now =
    seen_within c.args.kind c.args.self.now c.loop-attribute.attribute-iterator c.next.new.self c.loop-attribute.place c.loop-attribute.last c.loop-attribute.invariant (attribute_at c.in-Some.attribute) c.in-Some.ensures.steps _ refl c.attributes-attribute-items.ensures.packet
    in omega (arith, c.attributes-attribute-items.ensures.packet.most)

pub loop-attribute-preserved : goal.loop-attribute-preserved
loop-attribute-preserved c =
    elim c.if-attribute-kind.branch [
      | then-attribute-kind w ↦
          rw w.last-is
          (seen_this c.args.kind c.args.self.now c.loop-attribute.attribute-iterator c.next.new.self c.loop-attribute.place c.loop-attribute.last c.loop-attribute.invariant (attribute_at c.in-Some.attribute) c.in-Some.ensures.steps _ refl w.if-attribute-kind.true)
      | else-attribute-kind w ↦
          rw w.last-is
          (seen_other c.args.kind c.args.self.now c.loop-attribute.attribute-iterator c.next.new.self c.loop-attribute.place c.loop-attribute.last c.loop-attribute.invariant (attribute_at c.in-Some.attribute) c.in-Some.ensures.steps _ refl (ne_eqb _ _ w.if-attribute-kind.false))
    ]

pub returns-clause-found : goal.returns-clause-found
returns-clause-found c =
    seen_all c.args.kind c.args.self.now c.loop-attribute.attribute-iterator c.loop-attribute.place c.loop-attribute.last c.loop-attribute.invariant c.in-None.ensures.steps.0

pub returns-clause-within : goal.returns-clause-within
returns-clause-within c =
    last_within c.args.kind c.args.self.now c.loop-attribute.last c.attributes-attribute-items.ensures.packet
    (seen_all c.args.kind c.args.self.now c.loop-attribute.attribute-iterator c.loop-attribute.place c.loop-attribute.last c.loop-attribute.invariant c.in-None.ensures.steps.0)
