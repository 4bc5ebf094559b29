use Rattle.std.proofs.Common.{Some, Option, ◌++◌, ◌∙◌, sym, ap, subst}
use Rattle.std.specs.Borrow.{Bor}
use Rattle.std.specs.Map.Iter.{TakesFirst, deref}
use Rattle.std_collections.proofs.IterRuns.{first_progress}
use Rattle.raw_lists.specs.Blocks.{items_of, left_in}
use Rattle.raw_lists.proofs.Blocks.{taken_here, none_here, none_left, next_shown, next_chained}
use Rattle.block_queue.proofs.iter.IterIterator.next.Goals as goal

pub returns-in-Some-clause-steps : goal.returns-in-Some-clause-steps
returns-in-Some-clause-steps g c =
    let i = c.self.inside in sym c.self.view_is ∙ taken_here i.block i.next c.in-Some.item.now (items_of i.blocks) c.in-Some.ensures.item

pub returns-in-Some-clause-goes : goal.returns-in-Some-clause-goes
returns-in-Some-clause-goes g c =
    let i = c.self.inside in
    first_progress deref _ _ (Some c.in-Some.item) (sym c.self.view_is ∙ taken_here i.block i.next c.in-Some.item.now (items_of i.blocks) c.in-Some.ensures.item)

pub returns-in_err-block-clause-steps : goal.returns-in_err-block-clause-steps
returns-in_err-block-clause-steps g c =
    let i = c.self.inside in let e = c.in_default.ensures.item in
    subst (λ (r : Option (Bor g.row.T.Denot)). TakesFirst deref c.args.self.now r (left_in i.block i.next ++ items_of c.next.new.self)) (sym c.from_residual.ensures)
    (sym c.self.view_is ∙ none_left i.block i.next i.blocks e c.in_err-block.ensures.0, none_left i.block i.next c.next.new.self e c.in_err-block.ensures.1)

pub invariant_of-self-2 : goal.invariant_of-self-2
invariant_of-self-2 g c = next_chained c.self.inside.blocks c.in_ok-block.block.now c.next.new.self c.self.invariant c.in_ok-block.ensures

pub returns-clause-steps : goal.returns-clause-steps
returns-clause-steps g c =
    let i = c.self.inside in
    subst (λ l. TakesFirst deref l c.first.result (left_in (Some c.in_ok-block.block) 1 ++ items_of c.next.new.self))
    (ap (λ l. l ++ items_of i.blocks) (sym (none_here i.block i.next c.in_default.ensures.item)) ∙ c.self.view_is)
    (next_shown i.blocks c.in_ok-block.block c.next.new.self c.first.result c.self.invariant c.in_ok-block.ensures c.first.ensures)

pub returns-clause-goes : goal.returns-clause-goes
returns-clause-goes g c =
    let i = c.self.inside in
    first_progress deref _ _ c.first.result (subst (λ l. TakesFirst deref l c.first.result (left_in (Some c.in_ok-block.block) 1 ++ items_of c.next.new.self))
    (ap (λ l. l ++ items_of i.blocks) (sym (none_here i.block i.next c.in_default.ensures.item)) ∙ c.self.view_is)
    (next_shown i.blocks c.in_ok-block.block c.next.new.self c.first.result c.self.invariant c.in_ok-block.ensures c.first.ensures))
