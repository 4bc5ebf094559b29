use Rattle.std.proofs.Common.{◌≡◌, ℕ, ◌+◌, refl, ap}
use Rattle.rad_advice.specs.Doubts.{client_doubts}
use Rattle.rad_advice.proofs.EachDoubt.{doubts_onward, doubts_end}
use Rattle.rad_advice.proofs.doubts.add_of_clients.Goals as goal

pub loop-client-init : goal.loop-client-init
loop-client-init c = (refl, refl)

pub loop-client-preserved : goal.loop-client-preserved
loop-client-preserved c =
    let same : c.loop-client.index ≡ c.loop-client.client-index = c.loop-client.invariant.0 in
    let one = rw same at c.in_ok-add_of_client.ensures in (
      ap (λ (k : ℕ). k + 1) same,
      doubts_onward client_doubts c.args.clients.now c.loop-client.client-index c.client-item.result c.loop-client.doubts.items c.add_of_client.new.doubts.items _ c.loop-client-test.true c.client-item.is one c.loop-client.invariant.1,
    )

pub returns : goal.returns
returns c = doubts_end client_doubts c.args.clients.now c.loop-client.client-index c.loop-client.doubts.items _ c.loop-client-test.false c.loop-client.invariant.1
