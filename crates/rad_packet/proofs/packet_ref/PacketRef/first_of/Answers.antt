use Rattle.std.proofs.Common.{◌+◌, ◌∷◌, ◌≤◌, [], ◌++◌, length, refl, ◌∙◌, ap, arith}
use Rattle.rad_packet.specs.Attribute.{attributes_of, of_kind}
use Rattle.rad_packet.specs.Item.{attribute_at}
use Rattle.rad_packet.proofs.Walk.{walked_none, walked_all, walked_more, walked_stands, walked_within, none_more}
use Rattle.std.proofs.lemmas.Bool.{ne_eqb}
use Rattle.rad_packet.proofs.packet_ref.PacketRef.first_of.Goals as goal

pub loop-attribute-init : goal.loop-attribute-init
loop-attribute-init c = record {
  before = [];
  walked = walked_none c.args.self.now _ (c.into_iter-attribute-iterator.ensures.into_iter_gives ∙ c.attributes-attribute-items.ensures.attributes);
  none = refl;
}

pub returns-then-attribute-kind-clause-found : goal.returns-then-attribute-kind-clause-found
returns-then-attribute-kind-clause-found c = record {
  before = c.loop-attribute.invariant.before;
  attribute = attribute_at c.in-Some.attribute;
  after = attributes_of c.next.new.self;
  stands = walked_stands c.args.self.now c.loop-attribute.attribute-iterator c.next.new.self c.loop-attribute.place c.loop-attribute.invariant.before (attribute_at c.in-Some.attribute) c.loop-attribute.invariant.walked c.in-Some.ensures.steps _ refl;
  has_kind = c.if-attribute-kind.true;
  first = c.loop-attribute.invariant.none;
}

pub returns-then-attribute-kind-clause-within : goal.returns-then-attribute-kind-clause-within
returns-then-attribute-kind-clause-within c =
    walked_within c.args.self.now c.loop-attribute.attribute-iterator c.next.new.self c.loop-attribute.place c.loop-attribute.invariant.before (attribute_at c.in-Some.attribute) c.loop-attribute.invariant.walked c.in-Some.ensures.steps c.attributes-attribute-items.ensures.packet _ refl

pub overflow_add-place : goal.overflow_add-place
overflow_add-place c =
    let within : c.loop-attribute.place + (2 + length c.in-Some.attribute.value.now) ≤ length c.args.self.now =
    walked_within c.args.self.now c.loop-attribute.attribute-iterator c.next.new.self c.loop-attribute.place c.loop-attribute.invariant.before (attribute_at c.in-Some.attribute) c.loop-attribute.invariant.walked c.in-Some.ensures.steps c.attributes-attribute-items.ensures.packet _ refl
    in omega (arith, c.attributes-attribute-items.ensures.packet.most)

pub loop-attribute-preserved : goal.loop-attribute-preserved
loop-attribute-preserved c = record {
  before = c.loop-attribute.invariant.before ++ attribute_at c.in-Some.attribute ∷ [];
  walked = walked_more c.args.self.now c.loop-attribute.attribute-iterator c.next.new.self c.loop-attribute.place c.loop-attribute.invariant.before (attribute_at c.in-Some.attribute) c.loop-attribute.invariant.walked c.in-Some.ensures.steps _ refl;
  none = none_more c.args.self.now c.loop-attribute.attribute-iterator c.next.new.self c.loop-attribute.place c.loop-attribute.invariant.before (attribute_at c.in-Some.attribute) c.loop-attribute.invariant.walked c.in-Some.ensures.steps c.args.kind c.loop-attribute.invariant.none (ne_eqb _ _ c.if-attribute-kind.false);
}

pub returns-clause-found : goal.returns-clause-found
returns-clause-found c =
    ap (of_kind c.args.kind) (walked_all c.args.self.now c.loop-attribute.attribute-iterator c.loop-attribute.place c.loop-attribute.invariant.before c.loop-attribute.invariant.walked c.in-None.ensures.steps.0)
    ∙ c.loop-attribute.invariant.none
