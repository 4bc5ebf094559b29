use Rattle.std.proofs.Common.{◌≡◌, ◌==◌, get_or, ◌-◌, true, false, arith}
use Rattle.std.proofs.lemmas.Bool.Decides.{nat_tests}
use Rattle.rad_config.proofs.LastSigns.{no_realm_at_end, no_realm_more, realm_found}
use Rattle.rad_config.proofs.realms.realm_of.Goals as goal

pub loop-place-init : goal.loop-place-init
loop-place-init c = record { within = omega arith; none = no_realm_at_end c.args.name.now }

pub returns-then-name-place-eq64 : goal.returns-then-name-place-eq64
returns-then-name-place-eq64 c =
    let same : (get_or c.args.name.now (c.loop-place.place - 1) 0 == 64) ≡ true = grind (arith, nat_tests) in
    realm_found c.args.name.now c.loop-place.place c.loop-place-test.true c.loop-place.invariant.within same c.loop-place.invariant.none

pub loop-place-preserved : goal.loop-place-preserved
loop-place-preserved c =
    let other : (get_or c.args.name.now (c.loop-place.place - 1) 0 == 64) ≡ false = grind (arith, nat_tests) in
    record {
      within = omega arith;
      none = no_realm_more c.args.name.now c.loop-place.place c.loop-place-test.true c.loop-place.invariant.within other c.loop-place.invariant.none;
    }
