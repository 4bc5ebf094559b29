use Rattle.std.proofs.Common.{ap, ◌∙◌}
use Rattle.raw_lists.proofs.Places.{block_cleared}
use Rattle.raw_lists.proofs.block.Block.clear.Goals as goal

pub invariant_of-self : goal.invariant_of-self
invariant_of-self g c =
    let r = c.self.inside in block_cleared r.start r.count r.region.places c.self.invariant (ap (λ q. q.items) c.self.view_is ∙ c.requires)
