-- What the worker of a lane does, as its wire sees it (RFC 2866 section 2.1, own). It is a sequence of parts. In each part a
-- datagram is received, which the lane hears or does not hear, or the lane does one step, and what that gives is sent.
use Rattle.std.specs.Prelude.{◌≡◌, ◌≢◌, ◌<◌, ◌≤◌, ◌*◌, ⊤, ℕ, List, [], ◌∷◌, ◌++◌, ◌⊎◌, Bool, true, false, All, slice_get, Option, Some, None, MatchOption, Result}
use Rattle.std.specs.List.{flat_map}
use Rattle.rad_config.specs.declared.reading.address.Endpoint.{Endpoint}
use Rattle.rad_realms.specs.Configuration.{HomeEntry, Configuration}
use Rattle.rad_tables.specs.declared.slots.Slot.{Slot}
use Rattle.rad_lane.specs.declared.stepping.Action.{Action}
use Rattle.rad_lane.specs.declared.stepping.Action.TheVariants.{Sent, Resent, Probed, WentDown, WentUp, Idle}
use Rattle.rad_desk.specs.declared.wire.Delivery.{Delivery}
use Rattle.locked_lanes.specs.declared.hearing.Told.{Told}
use Rattle.locked_lanes.specs.declared.hearing.DeskFault.{DeskFault}
use Rattle.locked_lanes.specs.declared.proxy.Stepped.{Stepped}
use Rattle.locked_lanes.specs.Departures.{StepsFor}
use Rattle.locked_lanes.specs.Found.{HearsLawfully}
use Rattle.rad_desk.specs.Traffic.{Event, arrived, departed, told, drew}
use Rattle.rad_desk.specs.Calls.{IsALook, IsSent}

-- The pair under which an action sends, if it sends.
abbrev pub slot_of : Action → Option Slot
slot_of (Sent number slot) = Some slot
slot_of (Resent number slot) = Some slot
slot_of (Probed slot) = Some slot
slot_of WentDown = None
slot_of WentUp = None
slot_of (Idle moment) = None

-- The action sends from this source port.
pub record IsPortOf (action : Action) (port : ℕ) : Type 0 where
  pub slot : Slot
  pub sends : slot_of action ≡ Some slot
  pub same_port : slot.port ≡ port

-- One step of a lawful book, with this lane's number and this home server's secret and limits, gave the octets at this
-- moment, with these random octets, to be sent from this source port.
pub record IsGiven (lane : ℕ) (home : HomeEntry) (moment : ℕ) (random : List ℕ) (port : ℕ) (octets : List ℕ) : Type 0 where
  pub action : Action
  pub from_port : IsPortOf action port
  pub before : List ℕ
  pub steps : StepsFor lane home moment random action (record { before = before; after = octets })

-- The lane was idle, and its book then held at least half of the requests that it may hold.
abbrev pub IsIdle : Action → Type 0
IsIdle (Sent number slot) = ⊥
IsIdle (Resent number slot) = ⊥
IsIdle (Probed slot) = ⊥
IsIdle WentDown = ⊥
IsIdle WentUp = ⊥
IsIdle (Idle moment) = ⊤

abbrev pub IsToBeCut : HomeEntry → Stepped → Type 0
IsToBeCut home stepped = IsIdle stepped.action × (home.limits.book ≤ 2 * stepped.held)

-- The octets were given to the socket of this source port, to be sent to the home server's address and port. Only if the
-- home server does not have that port, nothing passed.
abbrev pub IsSentHome : HomeEntry → ℕ → List ℕ → List Event → Type 0
IsSentHome home port octets events =
    ((port < home.limits.ports) × IsSent port home.endpoint octets events) ⊎ ((¬ (port < home.limits.ports)) × (events ≡ []))

-- A part of the work:
-- `unheard`, in which a datagram was received on a socket, from another address or port than the home server's;
-- `heard`, in which these octets were received on a socket, from the home server's address and port, and this moment was
-- read, at which the lane heard them, with this result;
-- `rested`, in which this moment was read and these octets were drawn, and then at most a later moment was read;
-- `stepped`, in which this moment was read and these octets were drawn, and then these octets were given to the socket of
-- a source port, with this outcome.
pub data Part : Type 0 where
  unheard : ℕ → Endpoint → List ℕ → Part
  heard : ℕ → List ℕ → ℕ → Result Told DeskFault → Part
  rested : ℕ → List ℕ → List Event → Part
  stepped : ℕ → List ℕ → ℕ → List ℕ → Delivery → Part

-- What a part sends is sent to the home server's address and port.
abbrev pub events_of : HomeEntry → Part → List Event
events_of home (unheard socket from octets) = arrived socket from octets ∷ []
events_of home (heard socket octets moment result) = arrived socket home.endpoint octets ∷ told moment ∷ []
events_of home (rested moment random later) = told moment ∷ drew random ∷ later
events_of home (stepped moment random port octets delivery) =
    told moment ∷ drew random ∷ departed port home.endpoint octets delivery ∷ []

-- What a valid part is. What came from the home server is heard: the lane hears the octets that were received, whole, as coming to
-- the source port of their socket.
abbrev pub IsRight : ℕ → HomeEntry → Part → Type 0
IsRight lane home (unheard socket from octets) = from ≢ home.endpoint
IsRight lane home (heard socket octets moment result) = HearsLawfully lane moment socket octets result
IsRight lane home (rested moment random later) = IsALook later
IsRight lane home (stepped moment random port octets delivery) =
    (port < home.limits.ports) × IsGiven lane home moment random port octets

-- A part in which the worker receives, and one in which the lane does a step.
abbrev pub IsReceipt : Part → Type 0
IsReceipt (unheard socket from octets) = ⊤
IsReceipt (heard socket octets moment result) = ⊤
IsReceipt (rested moment random later) = ⊥
IsReceipt (stepped moment random port octets delivery) = ⊥

abbrev pub IsStep : Part → Type 0
IsStep (unheard socket from octets) = ⊥
IsStep (heard socket octets moment result) = ⊥
IsStep (rested moment random later) = ⊤
IsStep (stepped moment random port octets delivery) = ⊤

-- The events of one valid part of this kind, or none.
abbrev pub OncePassed : (Part → Type 0) → ℕ → HomeEntry → List Event → Type 0
OncePassed Kind lane home events =
    (events ≡ []) ⊎ ((part : Part) × Kind part × (events ≡ events_of home part) × IsRight lane home part)

-- At most one datagram was received from the home server, which the lane does not hear, since the worker is stopped.
abbrev pub IsLeftUnheard : HomeEntry → List Event → Type 0
IsLeftUnheard home events =
    (events ≡ []) ⊎ ((socket : ℕ) × (octets : List ℕ) × (events ≡ arrived socket home.endpoint octets ∷ []))

-- What passed where the worker received: one part, or none, if it goes on.
abbrev pub ReceivesOnce : Bool → ℕ → HomeEntry → List Event → Type 0
ReceivesOnce true lane home events = OncePassed IsReceipt lane home events
ReceivesOnce false lane home events = IsLeftUnheard home events

-- The worker works in valid parts.
pub record WorksOn (lane : ℕ) (home : HomeEntry) (events : List Event) : Type 0 where
  pub parts : List Part
  pub passed : events ≡ flat_map (events_of home) parts
  pub right : All (IsRight lane home) parts

-- It works so, and at the end it may be stopped when a datagram has just come.
pub record WorksForHome (lane : ℕ) (home : HomeEntry) (events : List Event) : Type 0 where
  pub before : List Event
  pub last : List Event
  pub passed : events ≡ before ++ last
  pub works : WorksOn lane home before
  pub stopped : IsLeftUnheard home last

-- What the worker of a lane does, if the configuration has a home server for the lane; otherwise nothing passes.
abbrev pub WorksOnLane : Configuration → ℕ → List Event → Type 0
WorksOnLane config lane events = MatchOption (slice_get config.homes lane) (events ≡ []) (λ home. WorksForHome lane home events)
