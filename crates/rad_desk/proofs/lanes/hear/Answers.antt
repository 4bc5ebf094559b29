use Rattle.std.proofs.Common.{◌≡◌, ◌↔◌, Bool, true, false, IsTrue, refl, inl}
use Rattle.std.specs.Prelude.{◌≢◌}
use Rattle.rad_config.specs.declared.reading.address.Endpoint.{Endpoint}
use Rattle.rad_desk.proofs.CallsJoined.{passes_none}
use Rattle.rad_desk.specs.Working.{IsReceipt, OncePassed}
use Rattle.rad_desk.proofs.HomeWork.{part_unheard, part_left, part_heard}
use Rattle.rad_desk.proofs.lanes.hear.Goals as goal

-- what is not from there is from elsewhere
elsewhere : (is : Bool) (from there : Endpoint) → IsTrue is ↔ (from ≡ there) → is ≡ false → from ≢ there
elsewhere is from there tells differs same = let so : is ≡ true = tells.1 same in absurd cc

pub returns-then-not-is_from-clause-hears : goal.returns-then-not-is_from-clause-hears
returns-then-not-is_from-clause-hears g c =
    let arrival = c.in-Some.arrival in
    part_unheard c.args.lane c.args.home.now arrival.socket arrival.from arrival.octets.now (elsewhere _ _ _ c.is_from.ensures c.if-not-is_from.true) _ _ c.in-Some.ensures.receives

pub returns-then-not-may-clause-hears : goal.returns-then-not-may-clause-hears
returns-then-not-may-clause-hears g c =
    let arrival = c.in-Some.arrival in
    part_left c.args.lane c.args.home.now arrival.socket arrival.from arrival.octets.now (c.is_from.ensures.0 c.if-not-is_from.false) _ _ c.in-Some.ensures.receives

pub returns-in-Ok-Answer-clause-hears : goal.returns-in-Ok-Answer-clause-hears
returns-in-Ok-Answer-clause-hears g c =
    let arrival = c.in-Some.arrival in
    part_heard c.args.lane c.args.home.now arrival.socket arrival.from arrival.octets.now c.now-now.result c.hear-told.result (c.is_from.ensures.0 c.if-not-is_from.false) c.hear-told.ensures _ _ _ c.in-Some.ensures.receives c.now-now.ensures

pub returns-in-Ok-ProbeAnswered-clause-hears : goal.returns-in-Ok-ProbeAnswered-clause-hears
returns-in-Ok-ProbeAnswered-clause-hears g c =
    let arrival = c.in-Some.arrival in
    part_heard c.args.lane c.args.home.now arrival.socket arrival.from arrival.octets.now c.now-now.result c.hear-told.result (c.is_from.ensures.0 c.if-not-is_from.false) c.hear-told.ensures _ _ _ c.in-Some.ensures.receives c.now-now.ensures

pub returns-in-Err-clause-hears : goal.returns-in-Err-clause-hears
returns-in-Err-clause-hears g c =
    let arrival = c.in-Some.arrival in
    part_heard c.args.lane c.args.home.now arrival.socket arrival.from arrival.octets.now c.now-now.result c.hear-told.result (c.is_from.ensures.0 c.if-not-is_from.false) c.hear-told.ensures _ _ _ c.in-Some.ensures.receives c.now-now.ensures

pub returns-in_default-clause-hears : goal.returns-in_default-clause-hears
returns-in_default-clause-hears g c = passes_none (OncePassed IsReceipt c.args.lane c.args.home.now) _ _ (inl refl) c.in_default.ensures.receives
