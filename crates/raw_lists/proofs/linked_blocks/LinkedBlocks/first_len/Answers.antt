use Rattle.std.proofs.Common.{◌∙◌, sym, ap, length}
use Rattle.raw_lists.specs.Chain.{joined}
use Rattle.raw_lists.proofs.Ends.{at_first}
use Rattle.raw_lists.proofs.linked_blocks.LinkedBlocks.first_len.Goals as goal

pub returns : goal.returns
returns g c = let b = c.self.inside in c.len.ensures ∙ ap length (at_first c.args.self.now (joined b.back) b.first.block (sym c.self.view_is))
