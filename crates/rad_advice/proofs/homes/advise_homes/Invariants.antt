use Rattle.std.proofs.Common.{◌≡◌, ◌++◌, map, drop}
use Rattle.std.specs.List.{filter_map}
use Rattle.rad_advice.specs.Homes.{advice_told, advice_of}
use Rattle.rad_advice.proofs.homes.advise_homes.Given as goal

abbrev pub invariant-loop-home : goal.invariant-loop-home
invariant-loop-home l =
    map advice_told l.advice.items ++ filter_map (advice_of l.config.listen l.local) (drop l.home-index l.config.homes)
    ≡ filter_map (advice_of l.config.listen l.local) l.config.homes
