use Rattle.std.proofs.Common.{◌≡◌, ◌++◌, [], take, drop}
use Rattle.rad_config.specs.internal.Values.{tables_of_values}
use Rattle.rad_config.specs.Faults.{each_faults}
use Rattle.rad_config.proofs.reading.listing.add_of_tables.Given as goal

abbrev pub invariant-loop-value : goal.invariant-loop-value
invariant-loop-value l =
    (l.index ≡ l.value-index)
    × (l.faults.items ++ each_faults l.part (tables_of_values l.homes) l.value-index (tables_of_values (take l.value-index l.tables)) (tables_of_values (drop l.value-index l.tables))
    ≡ l.fn.faults.items ++ each_faults l.part (tables_of_values l.homes) 0 [] (tables_of_values l.tables))
