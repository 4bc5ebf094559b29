use Rattle.std.proofs.Common.{◌≡◌, ◌++◌, take, drop}
use Rattle.std.specs.Prelude.{map}
use Rattle.rad_audit.specs.Kept.{seen as the_seen}
use Rattle.rad_audit.proofs.kept_sums.KeptSums.see.Given as goal

abbrev pub invariant-loop-kept : goal.invariant-loop-kept
invariant-loop-kept l =
    l.kept-items ≡ map (the_seen l.run l.file l.sum) (take l.kept-index l.fn.self.sums.items) ++ drop l.kept-index l.fn.self.sums.items
