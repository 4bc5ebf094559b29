use Rattle.std.proofs.Common.{length}
use Rattle.raw_lists.specs.Chain.{joined}
use Rattle.raw_lists.proofs.chain.Chain.drop.Given as goal

abbrev pub decreases-loop-left : goal.decreases-loop-left
decreases-loop-left g l = length (joined l.left)
