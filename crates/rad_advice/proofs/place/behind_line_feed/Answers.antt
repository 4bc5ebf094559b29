use Rattle.std.proofs.Common.{◌≡◌, ◌==◌, get_or, ◌-◌, true, false, arith}
use Rattle.std.proofs.lemmas.Bool.Decides.{nat_tests}
use Rattle.rad_advice.proofs.LastLines.{none_at_end, none_more, line_found}
use Rattle.rad_advice.proofs.place.behind_line_feed.Goals as goal

pub loop-place-init : goal.loop-place-init
loop-place-init c = record { within = omega arith; none = none_at_end c.args.octets.now }

pub returns-then-octets-place-eq10 : goal.returns-then-octets-place-eq10
returns-then-octets-place-eq10 c =
    let same : (get_or c.args.octets.now (c.loop-place.place - 1) 0 == 10) ≡ true = grind (arith, nat_tests) in
    line_found c.args.octets.now c.loop-place.place c.loop-place-test.true c.loop-place.invariant.within same c.loop-place.invariant.none

pub loop-place-preserved : goal.loop-place-preserved
loop-place-preserved c =
    let other : (get_or c.args.octets.now (c.loop-place.place - 1) 0 == 10) ≡ false = grind (arith, nat_tests) in
    record {
      within = omega arith;
      none = none_more c.args.octets.now c.loop-place.place c.loop-place-test.true c.loop-place.invariant.within other c.loop-place.invariant.none;
    }
