use Rattle.std.proofs.Common.{◌≡◌, ◌++◌, take, drop}
use Rattle.std.specs.Prelude.{map}
use Rattle.rad_audit.specs.Kept.{tied}
use Rattle.rad_audit.proofs.ties.Ties.see.Given as goal

abbrev pub invariant-loop-tie : goal.invariant-loop-tie
invariant-loop-tie l = l.tie-items ≡ map (tied l.run l.sum) (take l.tie-index l.fn.self.ties.items) ++ drop l.tie-index l.fn.self.ties.items
