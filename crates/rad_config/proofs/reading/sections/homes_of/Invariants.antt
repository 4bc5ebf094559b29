use Rattle.std.proofs.Common.{◌≡◌, [], drop, length}
use Rattle.rad_config.specs.internal.Values.{tables_of_values}
use Rattle.rad_config.specs.Walk.{home_in, each}
use Rattle.rad_config.proofs.reading.sections.homes_of.Given as goal

abbrev pub invariant-loop-value : goal.invariant-loop-value
invariant-loop-value l = record {
  so_far : each home_in l.homes (tables_of_values (drop l.value-index l.tables)) ≡ each home_in [] (tables_of_values l.tables);
  as_many : length l.homes ≡ l.value-index;
}
