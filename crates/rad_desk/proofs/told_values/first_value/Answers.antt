use Rattle.std.proofs.Common.{◌≡◌, ◌∙◌, sym, ap, ◌==◌, true, false, arith}
use Rattle.std.proofs.lemmas.Bool.Decides.{nat_tests}
use Rattle.rad_packet.specs.Attribute.{attributes_of}
use Rattle.rad_packet.specs.Item.{attribute_at}
use Rattle.rad_realms.proofs.FirstValue.{first_value as first_among, first_here, first_later}
use Rattle.rad_desk.proofs.FirstTold.{first_is}
use Rattle.rad_desk.proofs.told_values.first_value.Goals as goal

pub loop-attribute-init : goal.loop-attribute-init
loop-attribute-init c =
    rw (c.into_iter-attribute-iterator.ensures.into_iter_gives, c.attributes-attribute-items.ensures.attributes) (first_is c.args.kind c.args.packet.now)

pub returns-then-attribute-kind : goal.returns-then-attribute-kind
returns-then-attribute-kind c =
    let same : (c.in-Some.attribute.kind == c.args.kind) ≡ true = grind (arith, nat_tests) in
    sym (first_here c.args.kind (attribute_at c.in-Some.attribute) (attributes_of c.next.new.self) same) ∙ ap (first_among c.args.kind) (sym c.in-Some.ensures.steps) ∙ c.loop-attribute.invariant

pub loop-attribute-preserved : goal.loop-attribute-preserved
loop-attribute-preserved c =
    let other : (c.in-Some.attribute.kind == c.args.kind) ≡ false = grind (arith, nat_tests) in
    sym (first_later c.args.kind (attribute_at c.in-Some.attribute) (attributes_of c.next.new.self) other) ∙ ap (first_among c.args.kind) (sym c.in-Some.ensures.steps) ∙ c.loop-attribute.invariant

pub returns : goal.returns
returns c = sym (ap (first_among c.args.kind) c.in-None.ensures.steps.0) ∙ c.loop-attribute.invariant
