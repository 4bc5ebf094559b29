use Rattle.std.proofs.Common.{◌≡◌, ℕ, ◌+◌, refl, ap}
use Rattle.rad_advice.specs.Doubts.{realm_doubts}
use Rattle.rad_advice.proofs.EachDoubt.{doubts_onward, doubts_end}
use Rattle.rad_advice.proofs.doubts.add_of_realms.Goals as goal

pub loop-realm-init : goal.loop-realm-init
loop-realm-init c = (refl, refl)

pub loop-realm-preserved : goal.loop-realm-preserved
loop-realm-preserved c =
    let same : c.loop-realm.index ≡ c.loop-realm.realm-index = c.loop-realm.invariant.0 in
    let one = rw same at c.in_ok-add_of_realm.ensures in (
      ap (λ (k : ℕ). k + 1) same,
      doubts_onward realm_doubts c.args.realms.now c.loop-realm.realm-index c.realm-item.result c.loop-realm.doubts.items c.add_of_realm.new.doubts.items _ c.loop-realm-test.true c.realm-item.is one c.loop-realm.invariant.1,
    )

pub returns : goal.returns
returns c = doubts_end realm_doubts c.args.realms.now c.loop-realm.realm-index c.loop-realm.doubts.items _ c.loop-realm-test.false c.loop-realm.invariant.1
