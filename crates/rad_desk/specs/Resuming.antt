-- What comes in over a wire over which requests that wait come in too (own). By `waits` a datagram that came has to wait behind them, or
-- does not.
use Rattle.std.specs.Prelude.{◌≡◌, ◌⊎◌, ⊤, ℕ, Bool, true, false, List, take, Option}
use Rattle.rad_config.specs.declared.reading.address.Endpoint.{Endpoint}
use Rattle.rad_desk.specs.declared.resuming.Hold.{Hold}
use Rattle.rad_desk.specs.declared.resuming.Hold.TheVariants.{Passes, Waits, Repeats, Refused}
use Rattle.rad_desk.specs.declared.wire.Received.{Received}
use Rattle.rad_desk.specs.declared.wire.Received.TheVariants.{Got, Nothing, Fault}
use Rattle.rad_desk.specs.Traffic.{Event, endpoint, Receives}

-- A datagram came in.
abbrev pub IsADatagram : Received → Type 0
IsADatagram (Got address port socket count) = ⊤
IsADatagram Nothing = ⊥
IsADatagram Fault = ⊥

-- A datagram has to wait, also if it is refused for that.
abbrev pub is_held : Hold → Bool
is_held Passes = false
is_held Waits = true
is_held Repeats = true
is_held (Refused reason) = true

-- What was received does not have to wait.
abbrev pub MayPass : (Endpoint → List ℕ → Bool → Type 0) → Received → List ℕ → Type 0
MayPass waits (Got address port socket count) buffer = waits (endpoint address port) (take count buffer) false
MayPass waits Nothing buffer = ⊤
MayPass waits Fault buffer = ⊤

-- A datagram was received over the wire, has to wait, and is not passed on.
pub record IsHeld (waits : Endpoint → List ℕ → Bool → Type 0) (result : Received) (buffer : List ℕ) (old new : Option (List Event)) : Type 0 where
  pub address : List ℕ
  pub port : ℕ
  pub socket : ℕ
  pub count : ℕ
  pub received : Receives old (Got address port socket count) buffer new
  pub held : waits (endpoint address port) (take count buffer) true
  pub nothing : result ≡ Nothing

-- What came over the wire is passed on, unless it has to wait.
abbrev pub ComesOver : (Endpoint → List ℕ → Bool → Type 0) → Received → List ℕ → Option (List Event) → Option (List Event) → Type 0
ComesOver waits result buffer old new =
    (Receives old result buffer new × MayPass waits result buffer) ⊎ IsHeld waits result buffer old new

-- A request that waited was given, and nothing passed over the wire; or none was given.
abbrev pub ComesIn : (Endpoint → List ℕ → Bool → Type 0) → Received → List ℕ → Option (List Event) → Option (List Event) → Option (List Event) → Option (List Event) → Type 0
ComesIn waits result buffer had gave old new =
    (IsADatagram result × Receives had result buffer gave × (new ≡ old)) ⊎ ((gave ≡ had) × ComesOver waits result buffer old new)
