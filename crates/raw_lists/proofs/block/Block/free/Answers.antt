use Rattle.std.proofs.Common.{ap, ◌∙◌}
use Rattle.raw_lists.proofs.Places.{all_empty}
use Rattle.raw_lists.proofs.block.Block.free.Goals as goal

pub free-requires-clause-empty : goal.free-requires-clause-empty
free-requires-clause-empty g c =
    let r = c.self.inside in all_empty r.start r.count r.region.places c.self.invariant (ap (λ q. q.items) c.self.view_is ∙ c.requires)
