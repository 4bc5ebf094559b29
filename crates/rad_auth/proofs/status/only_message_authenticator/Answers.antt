use Rattle.std.proofs.Common.{◌≡◌, ◌∙◌, ◌==◌, ◌+◌, ◌≤◌, length, false, refl, sym, arith}
use Rattle.std.proofs.lemmas.Bool.Decides.{nat_tests}
use Rattle.rad_packet.specs.Item.{attribute_at}
use Rattle.rad_auth.proofs.OnlySigns.{only_none, only_within, only_here, only_on, only_twice, only_all}
use Rattle.rad_auth.proofs.status.only_message_authenticator.Goals as goal
use Rattle.rad_auth.proofs.status.only_message_authenticator.Goals.{in-80-2, in_default}

pub loop-attribute-init : goal.loop-attribute-init
loop-attribute-init c =
    only_none _ _ (c.into_iter-attribute-iterator.ensures.into_iter_gives ∙ c.attributes-attribute-items.ensures.attributes)

pub returns-in-80 : goal.returns-in-80
returns-in-80 c =
    only_twice _ c.loop-attribute.attribute-iterator c.next.new.self c.loop-attribute.place (attribute_at c.in-Some.attribute) c.in-Some.ensures.steps _ c.loop-attribute.invariant
    (sym c.is_some.ensures ∙ c.if-is_some.true) c.in-80.is

pub overflow_add-place : goal.overflow_add-place
overflow_add-place c =
    let packet = c.attributes-attribute-items.ensures.packet in
    let within : c.loop-attribute.place + (2 + length c.in-Some.attribute.value.now) ≤ length c.args.packet.now =
    only_within _ c.loop-attribute.attribute-iterator c.next.new.self c.loop-attribute.place (attribute_at c.in-Some.attribute) c.in-Some.ensures.steps _ refl _ c.loop-attribute.invariant packet in
    omega (arith, within, packet.most)

pub loop-attribute-preserved : goal.loop-attribute-preserved
loop-attribute-preserved c =
    elim c.match-attribute.branch [
      | in-80-2 w ↦
          rw w.only-is
          (only_here _ c.loop-attribute.attribute-iterator c.next.new.self c.loop-attribute.place (attribute_at c.in-Some.attribute) c.in-Some.ensures.steps _ refl _ c.loop-attribute.invariant (sym w.is_some.ensures ∙ w.if-is_some.false) w.in-80.is)
      | in_default w ↦
          let other : (c.in-Some.attribute.kind == 80) ≡ false = grind (arith, nat_tests) in
          rw w.only-is
          (only_on _ c.loop-attribute.attribute-iterator c.next.new.self c.loop-attribute.place (attribute_at c.in-Some.attribute) c.in-Some.ensures.steps _ refl _ c.loop-attribute.invariant other)
    ]

pub returns : goal.returns
returns c =
    only_all _ _ _ c.attributes-attribute-items.ensures.packet c.loop-attribute.only c.loop-attribute.invariant c.in-None.ensures.steps.0
