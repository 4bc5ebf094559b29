-- Configurations that are read from octets (own).
use Rattle.std.specs.Prelude.{◌≡◌, ℕ, List, Result, Err, ◌⊎◌}
use Rattle.std.specs.Str.{IsUtf8}
use Rattle.rad_config.specs.Configuration.{Configuration}
use Rattle.rad_config.specs.Gives.{Gives}
use Rattle.rad_config.specs.Walk.{configuration_in}
use Rattle.rad_config.specs.declared.reading.faults.ConfigFault.{ConfigFault}
use Rattle.rad_config.specs.declared.reading.faults.ConfigFault.TheVariants.{Toml}

-- The octets are read as UTF-8 text. Octets that are not UTF-8 are not TOML either.
abbrev pub ReadsOctets : List ℕ → Result Configuration ConfigFault → Type 0
ReadsOctets octets result =
    (IsUtf8 octets × Gives result (configuration_in octets)) ⊎ (¬ (IsUtf8 octets) × (result ≡ Err Toml))
