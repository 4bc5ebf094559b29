use Rattle.std.proofs.Common.{sym, ap, refl, arith, length}
use Rattle.raw_lists.specs.Chain.{joined}
use Rattle.raw_lists.proofs.Ends.{at_first}
use Rattle.raw_lists.proofs.linked_blocks.LinkedBlocks.pop.Goals as goal

pub pop-requires : goal.pop-requires
pop-requires g c = let b = c.self.inside in let n = ap length (at_first c.args.self.now (joined b.back) b.first.block (sym c.self.view_is)) in let some = c.requires in omega arith

pub returns : goal.returns
returns g c = let b = c.self.inside in (b.first.block, c.pop.new.self, joined b.back, sym c.self.view_is, refl, c.pop.ensures)
