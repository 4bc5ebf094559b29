use Rattle.std.proofs.Common.{◌≡◌, get_or, map, arith}
use Rattle.std.proofs.lemmas.Grind.{common_steps}
use Rattle.std.specs.List.{filter_map}
use Rattle.rad_advice.specs.Homes.{advice_told, advice_of}
use Rattle.rad_advice.proofs.Lists.{filter_map_onward}
use Rattle.rad_advice.proofs.homes.advise_homes.Goals as goal

pub loop-home-preserved : goal.loop-home-preserved
loop-home-preserved c =
    let f = advice_of c.args.config.now.listen c.args.local.now in
    let homes = c.args.config.now.homes in
    let home = c.home-item.result in
    let at : get_or homes c.loop-home.home-index home ≡ home = grind (arith, common_steps) in
    rw (c.in_ok-add_advice.ensures, c.advise_home-one.ensures, c.listen-listen.ensures)
    (filter_map_onward f homes c.loop-home.home-index home (map advice_told c.loop-home.advice.items) (filter_map f homes) (grind (arith, common_steps)) at c.loop-home.invariant)
