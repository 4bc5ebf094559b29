-- The document's values as the readers return them (own). No public clause cites this module.
use Rattle.std.specs.Prelude.{◌≡◌, List, All, map, unwrap_or, Result, Ok, Err, IsSome}
use Rattle.std.specs.Borrow.{Bor}
use Rattle.toml.specs.Data.{Members, no_members, as_table}
use Rattle.toml.specs.View.{view}
use Rattle.toml.specs.declared.value.Value.{Value}
use Rattle.rad_config.specs.declared.reading.faults.ConfigFault.{ConfigFault}

abbrev pub IsTable : Value → Type 0
IsTable value = IsSome (as_table (view value))

-- the table that a value is
abbrev pub table_of : Value → Members
table_of value = unwrap_or (as_table (view value)) no_members

abbrev pub tables_of_values : List Value → List Members
tables_of_values values = map table_of values

-- The result is the one that reading gives.
abbrev pub Reads : {X Y : Type 0} → (X → Y) → Result X ConfigFault → Result Y ConfigFault → Type 0
Reads view (Ok x) reading = reading ≡ Ok (view x)
Reads view (Err fault) reading = reading ≡ Err fault

-- The result is the tables of the values, each of which is a table, or the fault that reading gives.
abbrev pub ReadsTables : Result (Bor (List Value)) ConfigFault → Result (List Members) ConfigFault → Type 0
ReadsTables (Ok values) reading = All IsTable values.now × (reading ≡ Ok (tables_of_values values.now))
ReadsTables (Err fault) reading = reading ≡ Err fault
