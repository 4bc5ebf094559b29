-- The fault of a replay that a fault of an event is (own).
use Rattle.std.specs.Prelude.{ℕ}
use Rattle.rad_replay.specs.declared.faults.ReplayFault.{ReplayFault}
use Rattle.rad_replay.specs.declared.faults.ReplayFault.TheVariants.{Memory, Events, Output}
use Rattle.rad_replay.specs.declared.faults.Halt.{Halt}
use Rattle.rad_replay.specs.declared.faults.Halt.TheVariants as halt

-- A fault that ends an event ends the replay. For a malformed event it has the number of the line.
abbrev pub fault_at : Halt → ℕ → ReplayFault
fault_at halt.Malformed line = Events line
fault_at halt.Memory line = Memory
fault_at halt.Output line = Output
