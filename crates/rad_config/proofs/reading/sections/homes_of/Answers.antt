use Rattle.std.proofs.Common.{arith}
use Rattle.std.proofs.lemmas.Result.{err_from_is_err_and}
use Rattle.std.proofs.lemmas.List.{length-append}
use Rattle.rad_config.specs.Configuration.{HomeEntry}
use Rattle.rad_config.specs.Walk.{home_in}
use Rattle.rad_config.proofs.Turns.{each_goes, each_stops, each_ends}
use Rattle.rad_config.proofs.reading.sections.homes_of.Goals as goal

pub returns-in_err-add_home : goal.returns-in_err-add_home
returns-in_err-add_home c =
    let p = err_from_is_err_and c.from_residual.result c.from_residual.ensures.1 in
    rw (p.1, p.2) (each_stops home_in c.args.tables.now _ c.loop-value.homes c.loop-value.value-index c.value-item.result _ c.loop-value-test.true c.value-item.is c.in_err-add_home.ensures c.loop-value.invariant.so_far)

pub loop-value-preserved : goal.loop-value-preserved
loop-value-preserved c =
    let s = c.in_ok-add_home.ensures in
    record {
      so_far = each_goes home_in c.args.tables.now c.loop-value.homes c.add_home.new.homes c.loop-value.value-index c.value-item.result s.0 _ c.loop-value-test.true c.value-item.is s.1 s.2 c.loop-value.invariant.so_far;
      as_many = grind (arith, s.2, length-append {A = HomeEntry});
    }

pub returns : goal.returns
returns c = each_ends home_in c.args.tables.now c.loop-value.homes c.loop-value.value-index _ c.loop-value-test.false c.loop-value.invariant.so_far
