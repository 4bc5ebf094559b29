use Rattle.std.proofs.Common.{◌++◌, [], ◌∷◌, ◌∙◌, sym, ap, subst}
use Rattle.raw_lists.specs.Blocks.{AllHaveItems}
use Rattle.raw_lists.specs.Chain.{joined}
use Rattle.raw_lists.proofs.Ends.{without_last, with_last}
use Rattle.raw_lists.proofs.linked_blocks.LinkedBlocks.without_empty_last.Goals as goal

pub returns-then-is_empty-clause-items : goal.returns-then-is_empty-clause-items
returns-then-is_empty-clause-items g c =
    let p = c.split_last-front in (without_last (joined p.result.0) c.args.self p.result.1.block (sym p.ensures) c.requires (sym c.is_empty.ensures ∙ c.if-is_empty.true)).1

pub returns-then-is_empty-clause-shape : goal.returns-then-is_empty-clause-shape
returns-then-is_empty-clause-shape g c =
    let p = c.split_last-front in (without_last (joined p.result.0) c.args.self p.result.1.block (sym p.ensures) c.requires (sym c.is_empty.ensures ∙ c.if-is_empty.true)).0

pub into_empty-requires : goal.into_empty-requires
into_empty-requires g c =
    let p = c.split_last-front in (without_last (joined p.result.0) c.args.self p.result.1.block (sym p.ensures) c.requires (sym c.is_empty.ensures ∙ c.if-is_empty.true)).2

pub returns-in-Some-clause-shape : goal.returns-in-Some-clause-shape
returns-in-Some-clause-shape g c =
    let p = c.split_last-front in let is = ap (λ o. joined o ++ p.result.1.block ∷ []) (sym c.in-Some.is) ∙ sym p.ensures in
    subst AllHaveItems (sym c.add.ensures) (with_last c.in-Some.front c.args.self p.result.1.block is c.requires (sym c.is_empty.ensures ∙ c.if-is_empty.false))

pub returns-in-None-clause-shape : goal.returns-in-None-clause-shape
returns-in-None-clause-shape g c =
    let p = c.split_last-front in let is = ap (λ o. joined o ++ p.result.1.block ∷ []) (sym c.in-None.is) ∙ sym p.ensures in
    subst AllHaveItems (sym c.one.ensures) (with_last [] c.args.self p.result.1.block is c.requires (sym c.is_empty.ensures ∙ c.if-is_empty.false))
