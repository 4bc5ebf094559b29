use Rattle.std.proofs.lemmas.Bool.{false≢true}
use Rattle.std.proofs.Common.{◌<◌, ◌∙◌, sym, subst, arith, length, ap, inl, is_some}
use Rattle.raw_lists.specs.Blocks.{items_of, IsChain, HasAtMostOneEmpty}
use Rattle.raw_lists.proofs.Ends.{some_first, held_alone}
use Rattle.raw_lists.proofs.held_blocks.HeldBlocks.prepare_pop_at_border.Goals as goal

pub replace_with-requires : goal.replace_with-requires
replace_with-requires g c =
    let bs = c.self.inside.linked in let s = c.detach_emptied.ensures in let h = subst (λ v. IsChain v.linked) (sym c.self.view_is) s.chained in
    let n = c.first_len-left.ensures in let few = c.if-left-lt2.true in
    let some = some_first bs h (subst (λ v. 0 < length (items_of v.linked)) (sym c.self.view_is) (subst (λ l. 0 < length l) (sym s.items) c.requires)) in
    (h, (omega arith, sym c.ends_empty-empty.ensures.is ∙ c.if-empty.true))

pub ends_empty-empty-requires : goal.ends_empty-empty-requires
ends_empty-empty-requires g c = subst (λ v. IsChain v.linked) (sym c.self.view_is) c.detach_emptied.ensures.chained

pub invariant_of-self : goal.invariant_of-self
invariant_of-self g c =
    let new = c.replace_with.new.dest in
    subst (λ o. HasAtMostOneEmpty new (is_some o)) (sym c.take.ensures.after) (held_alone new (inl c.replace_with.ensures.chained))

pub invariant_of-self-else-empty : goal.invariant_of-self-else-empty
invariant_of-self-else-empty g c =
    let bs = c.self.inside.linked in
    let chained : IsChain bs = subst (λ v. IsChain v.linked) (sym c.self.view_is) c.detach_emptied.ensures.chained in
    subst (λ o. HasAtMostOneEmpty bs (is_some o)) (sym c.take.ensures.after) (held_alone bs (inl chained))

pub returns-then-empty-clause-spare : goal.returns-then-empty-clause-spare
returns-then-empty-clause-spare g c = λ wrong. absurd (false≢true (sym (ap is_some c.take.ensures.after) ∙ wrong))

pub returns-else-empty-clause-spare : goal.returns-else-empty-clause-spare
returns-else-empty-clause-spare g c = λ wrong. absurd (false≢true (sym (ap is_some c.take.ensures.after) ∙ wrong))
