use Rattle.std.proofs.Common.{length, drop, ap, arith, length-drop, ◌∙◌, sym}
use Rattle.rad_packet.specs.Item.{attribute_at}
use Rattle.rad_desk.specs.Marks.{marks_in}
use Rattle.rad_desk.proofs.MarksCounted.{count_this, count_other, marks_few}
use Rattle.rad_desk.proofs.marks.count_marks.Goals as goal

pub loop-attribute-init : goal.loop-attribute-init
loop-attribute-init c =
    rw (c.into_iter-attribute-iterator.ensures.into_iter_gives, c.attributes-attribute-items.ensures.attributes) (omega arith)

pub overflow_add-count : goal.overflow_add-count
overflow_add-count c =
    omega (arith, c.loop-attribute.invariant, count_this c.loop-attribute.attribute-iterator c.next.new.self (attribute_at c.in-Some.attribute) c.in-Some.ensures.steps (sym c.is_mark.ensures ∙ c.if-is_mark.true), marks_few (drop 20 c.args.packet.now), length-drop 20 c.args.packet.now, c.attributes-attribute-items.ensures.packet.most)

pub loop-attribute-preserved : goal.loop-attribute-preserved
loop-attribute-preserved c =
    omega (arith, c.loop-attribute.invariant, count_other c.loop-attribute.attribute-iterator c.next.new.self (attribute_at c.in-Some.attribute) c.in-Some.ensures.steps (sym c.is_mark.ensures ∙ c.if-is_mark.false))

pub returns : goal.returns
returns c = omega (arith, c.loop-attribute.invariant, ap (λ xs. length (marks_in xs)) c.in-None.ensures.steps.0)
