use Rattle.std.proofs.Common.{◌∙◌}
use Rattle.raw_lists.proofs.Cells.{one_linked, one_cell}
use Rattle.raw_lists.proofs.chain.Chain.one.Goals as goal

pub invariant_of-result : goal.invariant_of-result
invariant_of-result g c =
    let p = c.one-nodes.result.1 in (one_linked p c.one-nodes.result.0.cells c.args.elem (c.one-nodes.ensures.cells ∙ one_cell p.at c.fill-node.result.0.places _ c.fill-node.ensures)).0

pub returns : goal.returns
returns g c =
    let p = c.one-nodes.result.1 in (one_linked p c.one-nodes.result.0.cells c.args.elem (c.one-nodes.ensures.cells ∙ one_cell p.at c.fill-node.result.0.places _ c.fill-node.ensures)).1
