use Rattle.std.proofs.Common.{inl, ◌∙◌, sym, ap, subst, arith}
use Rattle.std.specs.Prelude.{is_some}
use Rattle.raw_lists.specs.Blocks.{room_of, IsChain, HasAtMostOneEmpty}
use Rattle.raw_lists.proofs.Blocks.{chain_grown}
use Rattle.raw_lists.proofs.Ends.{held_alone}
use Rattle.raw_lists.proofs.held_blocks.HeldBlocks.add_block.Goals as goal

pub invariant_of-self-2 : goal.invariant_of-self-2
invariant_of-self-2 g c =
    let bs = c.self.inside.linked in let q = c.cleared.result.block in let new = c.replace_with.new.dest in let room = ap (λ b. b.room) c.cleared.ensures in
    let h = subst (λ v. IsChain v.linked) (sym c.self.view_is) c.detach_emptied.ensures.chained in
    let full = ap (λ v. room_of v.linked) c.self.view_is ∙ c.detach_emptied.ensures.room ∙ c.requires in
    subst (λ o. HasAtMostOneEmpty new (is_some o)) (sym c.take.ensures.after) (held_alone new (inl (chain_grown bs new q h full (omega arith) c.replace_with.ensures)))
