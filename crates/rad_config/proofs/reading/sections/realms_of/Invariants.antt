use Rattle.std.proofs.Common.{◌≡◌, [], drop}
use Rattle.rad_config.specs.internal.Values.{tables_of_values}
use Rattle.rad_config.specs.Walk.{realm_in_table, each}
use Rattle.rad_config.proofs.reading.sections.realms_of.Given as goal

abbrev pub invariant-loop-value : goal.invariant-loop-value
invariant-loop-value l = each (realm_in_table l.homes) l.realms (tables_of_values (drop l.value-index l.tables)) ≡ each (realm_in_table l.homes) [] (tables_of_values l.tables)
