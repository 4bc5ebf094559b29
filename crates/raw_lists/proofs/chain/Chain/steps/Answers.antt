use Rattle.std.proofs.Common.{◌<◌, ◌^◌, subst, sym, length}
use Rattle.raw_lists.proofs.Cells.{begun}
use Rattle.raw_lists.proofs.chain.Chain.steps.Goals as goal

pub invariant_of-result : goal.invariant_of-result
invariant_of-result g c = let me = c.self.inside in begun me.head me.tail me.nodes.cells c.self.invariant (subst (λ l. length l < 2 ^ 64) (sym c.self.view_is) c.requires)
