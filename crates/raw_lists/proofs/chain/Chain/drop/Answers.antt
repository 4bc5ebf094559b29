use Rattle.std.proofs.Common.{ap, arith, length}
use Rattle.raw_lists.specs.Chain.{joined}
use Rattle.raw_lists.proofs.chain.Chain.drop.Goals as goal

pub loop-left-smaller : goal.loop-left-smaller
loop-left-smaller g c = let left = ap (λ v. length (joined v)) c.in-Some.is in let rest = ap length c.split-rest.ensures in omega arith
