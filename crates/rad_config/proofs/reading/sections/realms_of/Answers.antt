use Rattle.std.proofs.lemmas.Result.{err_from_is_err_and}
use Rattle.rad_config.specs.Walk.{realm_in_table}
use Rattle.rad_config.proofs.Turns.{each_goes, each_stops, each_ends}
use Rattle.rad_config.proofs.reading.sections.realms_of.Goals as goal

pub returns-in_err-add_realm : goal.returns-in_err-add_realm
returns-in_err-add_realm c =
    let p = err_from_is_err_and c.from_residual.result c.from_residual.ensures.1 in
    rw (p.1, p.2) (each_stops (realm_in_table c.args.homes.now) c.args.tables.now _ c.loop-value.realms c.loop-value.value-index c.value-item.result _ c.loop-value-test.true c.value-item.is c.in_err-add_realm.ensures c.loop-value.invariant)

pub loop-value-preserved : goal.loop-value-preserved
loop-value-preserved c =
    let s = c.in_ok-add_realm.ensures in
    each_goes (realm_in_table c.args.homes.now) c.args.tables.now c.loop-value.realms c.add_realm.new.realms c.loop-value.value-index c.value-item.result s.0 _ c.loop-value-test.true c.value-item.is s.1 s.2 c.loop-value.invariant

pub returns : goal.returns
returns c = each_ends (realm_in_table c.args.homes.now) c.args.tables.now c.loop-value.realms c.loop-value.value-index _ c.loop-value-test.false c.loop-value.invariant
