use Rattle.std.proofs.Common.{◌≡◌, [], drop}
use Rattle.rad_config.specs.internal.Values.{tables_of_values}
use Rattle.rad_config.specs.Walk.{client_in, each}
use Rattle.rad_config.proofs.reading.sections.clients_of.Given as goal

abbrev pub invariant-loop-value : goal.invariant-loop-value
invariant-loop-value l = each client_in l.clients (tables_of_values (drop l.value-index l.tables)) ≡ each client_in [] (tables_of_values l.tables)
