-- How the program ends (own).
use Rattle.std.specs.Prelude.{ℕ}
use Rattle.config_json.specs.declared.faults.Fault.{Fault}
use Rattle.config_json.specs.declared.faults.Fault.TheVariants.{Usage, File, Configuration, Memory, NoPipe, Output}

-- The exit status of each fault.
abbrev pub status_of : Fault → ℕ
status_of Usage = 1
status_of (Configuration fault) = 2
status_of (File path) = 4
status_of Memory = 4
status_of NoPipe = 4
status_of Output = 4
