use Rattle.std.proofs.Common.{◌≡◌, ℕ, ◌+◌, refl, ap, arith}
use Rattle.std.proofs.lemmas.List.{length-take}
use Rattle.rad_advice.specs.Doubts.{home_doubts}
use Rattle.rad_advice.proofs.EachDoubt.{doubts_onward, doubts_end}
use Rattle.rad_advice.proofs.doubts.add_of_homes.Goals as goal

pub slice_bounds-add_of_home-end : goal.slice_bounds-add_of_home-end
slice_bounds-add_of_home-end c = simp length-take (omega (arith, c.loop-home.invariant.0, c.loop-home-test.true))

pub loop-home-init : goal.loop-home-init
loop-home-init c = (refl, refl)

pub loop-home-preserved : goal.loop-home-preserved
loop-home-preserved c =
    let i = c.loop-home.home-index in
    let same : c.loop-home.index ≡ i = c.loop-home.invariant.0 in
    let one = rw same at c.in_ok-add_of_home.ensures in (
      ap (λ (k : ℕ). k + 1) same,
      doubts_onward (home_doubts c.args.config.now) c.args.homes.now i c.home-item.result c.loop-home.doubts.items c.add_of_home.new.doubts.items _ c.loop-home-test.true c.home-item.is one c.loop-home.invariant.1,
    )

pub returns : goal.returns
returns c = doubts_end (home_doubts c.args.config.now) c.args.homes.now c.loop-home.home-index c.loop-home.doubts.items _ c.loop-home-test.false c.loop-home.invariant.1
