use Rattle.std.proofs.lemmas.Result.{err_from_is_err_and}
use Rattle.rad_config.specs.Walk.{client_in}
use Rattle.rad_config.proofs.Turns.{each_goes, each_stops, each_ends}
use Rattle.rad_config.proofs.reading.sections.clients_of.Goals as goal

pub returns-in_err-add_client : goal.returns-in_err-add_client
returns-in_err-add_client c =
    let p = err_from_is_err_and c.from_residual.result c.from_residual.ensures.1 in
    rw (p.1, p.2) (each_stops client_in c.args.tables.now _ c.loop-value.clients c.loop-value.value-index c.value-item.result _ c.loop-value-test.true c.value-item.is c.in_err-add_client.ensures c.loop-value.invariant)

pub loop-value-preserved : goal.loop-value-preserved
loop-value-preserved c =
    let s = c.in_ok-add_client.ensures in
    each_goes client_in c.args.tables.now c.loop-value.clients c.add_client.new.clients c.loop-value.value-index c.value-item.result s.0 _ c.loop-value-test.true c.value-item.is s.1 s.2 c.loop-value.invariant

pub returns : goal.returns
returns c = each_ends client_in c.args.tables.now c.loop-value.clients c.loop-value.value-index _ c.loop-value-test.false c.loop-value.invariant
