use Rattle.std.proofs.Common.{◌≡◌, ◌∙◌, ◌==◌, ◌+◌, ◌≤◌, length, false, refl, arith}
use Rattle.std.proofs.lemmas.Bool.Decides.{nat_tests}
use Rattle.rad_packet.specs.Item.{attribute_at}
use Rattle.rad_auth.proofs.LastStates.{state_none, state_within, state_here, state_on}
use Rattle.rad_auth.proofs.responding.last_proxy_state.Goals as goal
use Rattle.rad_auth.proofs.responding.last_proxy_state.Goals.{in-33, in_default}

pub loop-attribute-init : goal.loop-attribute-init
loop-attribute-init c =
    state_none _ _ (c.into_iter-attribute-iterator.ensures.into_iter_gives ∙ c.attributes-attribute-items.ensures.attributes)

pub overflow_add-place : goal.overflow_add-place
overflow_add-place c =
    let packet = c.attributes-attribute-items.ensures.packet in
    let within : c.loop-attribute.place + (2 + length c.in-Some.attribute.value.now) ≤ length c.args.reply.now =
    state_within _ c.loop-attribute.attribute-iterator c.next.new.self c.loop-attribute.place _ c.loop-attribute.invariant (attribute_at c.in-Some.attribute) c.in-Some.ensures.steps _ refl packet in
    omega (arith, within, packet.most)

pub loop-attribute-preserved : goal.loop-attribute-preserved
loop-attribute-preserved c =
    elim c.match-attribute.branch [
      | in-33 w ↦
          let other : (c.in-Some.attribute.kind == 80) ≡ false = grind (arith, nat_tests) in
          rw w.last-is
          (state_here _ c.loop-attribute.attribute-iterator c.next.new.self c.loop-attribute.place _ c.loop-attribute.invariant (attribute_at c.in-Some.attribute) c.in-Some.ensures.steps _ refl other w.in-33.is)
      | in_default w ↦
          let other : (c.in-Some.attribute.kind == 80) ≡ false = grind (arith, nat_tests) in
          let apart : (c.in-Some.attribute.kind == 33) ≡ false = grind (arith, nat_tests) in
          rw w.last-is
          (state_on _ c.loop-attribute.attribute-iterator c.next.new.self c.loop-attribute.place _ c.loop-attribute.invariant (attribute_at c.in-Some.attribute) c.in-Some.ensures.steps _ refl other apart)
    ]
