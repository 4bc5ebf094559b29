-- The result of reading a part of a configuration, which is the one that its definition gives or `OutOfMemory`.
use Rattle.std.specs.Prelude.{◌≡◌, List, [], ◌∷◌, ◌++◌, Result, Ok, Err}
use Rattle.rad_config.specs.declared.reading.faults.ConfigFault.{ConfigFault}
use Rattle.rad_config.specs.declared.reading.faults.ConfigFault.TheVariants.{OutOfMemory}

-- The fault is the one that reading gives, or `OutOfMemory`.
abbrev pub Fails : {X : Type 0} → ConfigFault → Result X ConfigFault → Type 0
Fails OutOfMemory reading = Unit {0}
Fails fault reading = reading ≡ Err fault

-- The result is the one that reading gives, or `OutOfMemory`.
abbrev pub Gives : {X : Type 0} → Result X ConfigFault → Result X ConfigFault → Type 0
Gives (Ok x) reading = reading ≡ Ok x
Gives (Err fault) reading = Fails fault reading

-- The entry that reading gives was appended; or the result is the fault that reading gives, or `OutOfMemory`.
abbrev pub Adds : {X : Type 0} → List X → List X → Result (Unit {0}) ConfigFault → Result X ConfigFault → Type 0
Adds {X} old new (Ok _) reading = (x : X) × (reading ≡ Ok x) × (new ≡ old ++ x ∷ [])
Adds old new (Err fault) reading = Fails fault reading
