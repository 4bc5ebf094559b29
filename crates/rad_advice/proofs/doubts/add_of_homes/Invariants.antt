use Rattle.std.proofs.Common.{◌≡◌, ◌++◌, drop}
use Rattle.rad_advice.specs.Doubts.{each_doubt, home_doubts}
use Rattle.rad_advice.proofs.doubts.add_of_homes.Given as goal

abbrev pub invariant-loop-home : goal.invariant-loop-home
invariant-loop-home l =
    (l.index ≡ l.home-index)
    × (l.doubts.items ++ each_doubt (home_doubts l.config) l.home-index (drop l.home-index l.homes) ≡ l.fn.doubts.items ++ each_doubt (home_doubts l.config) 0 l.homes)
