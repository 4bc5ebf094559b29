-- What passes over a wire in a call (own).
use Rattle.std.specs.Prelude.{◌≡◌, ◌≤◌, ◌+◌, ◌⊎◌, ℕ, List, [], ◌∷◌, Option}
use Rattle.rad_config.specs.declared.reading.address.Endpoint.{Endpoint}
use Rattle.rad_desk.specs.declared.wire.Delivery.{Delivery}
use Rattle.rad_desk.specs.Traffic.{Event, arrived, departed, told, drew, logged}

-- Exactly these events passed, and they satisfy `Right`.
pub record Passes (Right : List Event → Type 0) (old new : Option (List Event)) : Type 0 where
  pub events : List Event
  pub passed : new ≡ logged old events
  pub right : Right events

-- This datagram was given to this socket, to be sent to this peer, and nothing else passed.
pub record IsSent (socket : ℕ) (peer : Endpoint) (octets : List ℕ) (events : List Event) : Type 0 where
  pub delivery : Delivery
  pub is : events ≡ departed socket peer octets delivery ∷ []

-- At most the moment was read.
abbrev pub IsALook : List Event → Type 0
IsALook events = (events ≡ []) ⊎ ((moment : ℕ) × (events ≡ told moment ∷ []))

-- The moment was read, and nothing else passed.
abbrev pub IsAReading : List Event → Type 0
IsAReading events = (moment : ℕ) × (events ≡ told moment ∷ [])

-- How many datagrams were received, and how many were sent.
abbrev pub arrivals : List Event → ℕ
arrivals [] = 0
arrivals (arrived socket peer octets ∷ more) = arrivals more + 1
arrivals (departed socket peer octets delivery ∷ more) = arrivals more
arrivals (told moment ∷ more) = arrivals more
arrivals (drew octets ∷ more) = arrivals more

abbrev pub departures : List Event → ℕ
departures [] = 0
departures (arrived socket peer octets ∷ more) = departures more
departures (departed socket peer octets delivery ∷ more) = departures more + 1
departures (told moment ∷ more) = departures more
departures (drew octets ∷ more) = departures more

-- No more datagrams than these were received and sent.
pub record AreAtMost (received sent : ℕ) (events : List Event) : Type 0 where
  pub receives : arrivals events ≤ received
  pub sends : departures events ≤ sent
