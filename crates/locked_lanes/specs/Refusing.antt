-- What a proxy that could not be closed returns (own): itself and the inlets, with what they had taken.
use Rattle.std.specs.Prelude.{◌≡◌, ℕ, ◌<◌, List, length, slice_index_or}
use Rattle.locked_lanes.specs.declared.inlet.Inlet.{Inlet}
use Rattle.locked_lanes.specs.declared.closing.CloseFault.{CloseFault}
use Rattle.locked_lanes.specs.declared.closing.CloseFault.TheVariants.{OutOfMemory}
use Rattle.locked_lanes.specs.Inlet.{IsUntouched}

pub record AreUntouched (old new : List Inlet) : Type 0 where
  pub counted : length new ≡ length old
  pub each : (place : ℕ) (d : Inlet) → place < length old → IsUntouched (slice_index_or old place d) (slice_index_or new place d)

abbrev pub HandsBack : ℕ → List Inlet → CloseFault → Type 0
HandsBack lanes inlets (OutOfMemory proxy back) = (proxy ≡ lanes) × AreUntouched inlets back
