use Rattle.std.proofs.Common.{inl, subst, arith}
use Rattle.raw_lists.specs.Blocks.{IsReady}
use Rattle.raw_lists.proofs.Ends.{filled_chain}
use Rattle.raw_lists.proofs.Ready.{ready_same}
use Rattle.raw_lists.proofs.held_blocks.HeldBlocks.prepare_pop.Goals as goal

pub returns-else-count-lt2-clause-ready : goal.returns-else-count-lt2-clause-ready
returns-else-count-lt2-clause-ready g c =
    let bs = c.self.inside.linked in let n = c.first_len-count.ensures in let two = c.if-count-lt2.false in
    subst (λ v. IsReady v.linked v.linked) c.self.view_is (ready_same bs (filled_chain bs c.self.invariant.lined (omega arith)) (inl (omega arith)))
