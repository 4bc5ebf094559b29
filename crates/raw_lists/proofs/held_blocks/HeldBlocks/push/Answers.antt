use Rattle.std.proofs.Common.{sym, subst}
use Rattle.std.specs.Prelude.{is_some}
use Rattle.raw_lists.specs.Blocks.{HasAtMostOneEmpty}
use Rattle.raw_lists.proofs.Blocks.{held_pushed}
use Rattle.raw_lists.proofs.held_blocks.HeldBlocks.push.Goals as goal

pub invariant_of-self : goal.invariant_of-self
invariant_of-self g c =
    let h = c.self.inside in subst (λ l. HasAtMostOneEmpty l (is_some h.spare)) (sym c.push.ensures) (held_pushed h.linked c.args.item (is_some h.spare) c.self.invariant)
