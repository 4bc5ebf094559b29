-- What passed over a wire (own): the datagrams received and sent, the moments read and the octets drawn, in order.
use Rattle.std.specs.Prelude.{◌≡◌, ℕ, ◌≤◌, ⊤, List, [], ◌∷◌, ◌++◌, take, Option, Some, None}
use Rattle.rad_config.specs.declared.reading.address.Endpoint.{Endpoint}
use Rattle.rad_desk.specs.declared.wire.Delivery.{Delivery}
use Rattle.rad_desk.specs.declared.wire.Passing.{Passing}
use Rattle.rad_desk.specs.declared.wire.Passing.TheVariants.{Arrived, Departed, Told, Drew}
use Rattle.rad_desk.specs.declared.wire.Received.{Received}
use Rattle.rad_desk.specs.declared.wire.Received.TheVariants.{Got, Nothing, Fault}

pub data Event : Type 0 where
  -- A datagram was received on this socket, from this address and port.
  arrived : ℕ → Endpoint → List ℕ → Event
  -- A datagram was given to this socket, to be sent to this address and port, with this outcome.
  departed : ℕ → Endpoint → List ℕ → Delivery → Event
  -- The moment was read.
  told : ℕ → Event
  -- Random octets were drawn.
  drew : List ℕ → Event

abbrev pub event : Passing → List ℕ → Event
event (Arrived socket peer) octets = arrived socket peer octets
event (Departed socket peer delivery) octets = departed socket peer octets delivery
event (Told moment) octets = told moment
event Drew octets = drew octets

abbrev pub endpoint : List ℕ → ℕ → Endpoint
endpoint address port = record { address = address; port = port }

-- A log with one more event at its end. A wire may keep no log.
abbrev pub noted : Option (List Event) → Event → Option (List Event)
noted None event = None
noted (Some before) event = Some (before ++ event ∷ [])

-- A log with these events added at its end, one after the other.
abbrev pub logged : Option (List Event) → List Event → Option (List Event)
logged log [] = log
logged log (event ∷ more) = logged (noted log event) more

-- A datagram that was received is logged, and is the front of the buffer. If none was received, nothing passed.
abbrev pub Receives : Option (List Event) → Received → List ℕ → Option (List Event) → Type 0
Receives old (Got address port socket count) buffer new =
    (count ≤ 4096) × (new ≡ noted old (arrived socket (endpoint address port) (take count buffer)))
Receives old Nothing buffer new = new ≡ old
Receives old Fault buffer new = new ≡ old

-- A received datagram is no longer than the room for it, 4096 octets.
abbrev pub FitsRoom : Received → Type 0
FitsRoom (Got address port socket count) = count ≤ 4096
FitsRoom Nothing = ⊤
FitsRoom Fault = ⊤
