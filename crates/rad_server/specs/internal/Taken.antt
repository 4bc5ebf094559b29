-- What sockets took, and what became of the datagrams of a worker (own). No public clause cites this module.
use Rattle.std.specs.Prelude.{◌≡◌, ℕ, zero, suc, ◌==◌, List, [], ◌∷◌, ◌++◌, map, Option, Some, None, IfSome, if◌then◌else◌}
use Rattle.std.specs.List.{filter_map}
use Rattle.rad_config.specs.declared.reading.address.Endpoint.{Endpoint}
use Rattle.rad_desk.specs.Traffic.{Event, arrived, departed, told, drew}
use Rattle.rad_desk.specs.declared.wire.Delivery.{Delivery}
use Rattle.rad_desk.specs.declared.wire.Delivery.TheVariants.{Sent, Fault}
use Rattle.rad_server.specs.declared.sockets.datagram_socket.Handed.{Handed}
use Rattle.rad_server.specs.declared.sockets.datagram_socket.Listed.{Listed}
use Rattle.rad_server.specs.declared.sockets.ready_socket.ReadySocket.{ReadySocket}
use Rattle.rad_server.specs.declared.sockets.datagram_socket.Handed.TheVariants.{Accepted, Full, Refused}

-- A datagram on its way out: where it goes, and its octets.
pub record Datagram : Type 0 where
  pub to : Endpoint
  pub octets : List ℕ

-- The same, and the index of the socket that it leaves from.
pub record Departure : Type 0 where
  pub socket : ℕ
  pub to : Endpoint
  pub octets : List ℕ

-- A socket's list with a datagram that the system accepted at its end. A socket may keep no list.
abbrev pub with_one : Option (List Datagram) → Datagram → Option (List Datagram)
with_one None datagram = None
with_one (Some before) datagram = Some (before ++ datagram ∷ [])

abbrev pub took_after : Option (List Datagram) → Endpoint → List ℕ → Handed → Option (List Datagram)
took_after before to octets Accepted = with_one before (record { to = to; octets = octets })
took_after before to octets Full = before
took_after before to octets Refused = before

-- The list of the socket at a place.
abbrev pub took_at : {S : Type 0} → (S → Option (List Datagram)) → List (ReadySocket S) → ℕ → Option (List Datagram)
took_at took [] place = None
took_at took (socket ∷ sockets) zero = took socket.socket
took_at took (socket ∷ sockets) (suc place) = took_at took sockets place

-- A datagram was handed to the socket at one place, with this outcome. The others are as they were.
abbrev pub Sends : {S : Type 0} → (S → Option (List Datagram)) → List (ReadySocket S) → List (ReadySocket S) → ℕ → Endpoint → List ℕ → Handed → Type 0
Sends took old new at to octets handed =
    (place : ℕ) → took_at took new place ≡ (if place == at then took_after (took_at took old place) to octets handed else took_at took old place)

-- No socket took anything.
abbrev pub SameTook : {S : Type 0} → (S → Option (List Datagram)) → List (ReadySocket S) → List (ReadySocket S) → Type 0
SameTook took old new = (place : ℕ) → took_at took new place ≡ took_at took old place

-- The datagrams of departures, and those of them that were taken on. The others are lost.
abbrev pub given_in : Event → Option Departure
given_in (departed socket to octets delivery) = Some (record { socket = socket; to = to; octets = octets })
given_in (arrived socket from octets) = None
given_in (told moment) = None
given_in (drew octets) = None

abbrev pub if_sent : Delivery → Departure → Option Departure
if_sent Sent departure = Some departure
if_sent Fault departure = None

abbrev pub taken_in : Event → Option Departure
taken_in (departed socket to octets delivery) = if_sent delivery (record { socket = socket; to = to; octets = octets })
taken_in (arrived socket from octets) = None
taken_in (told moment) = None
taken_in (drew octets) = None

abbrev pub given : List Event → List Departure
given events = filter_map given_in events

abbrev pub taken : List Event → List Departure
taken events = filter_map taken_in events

-- The datagrams of departures, without the socket.
abbrev pub plain : Departure → Datagram
plain departure = record { to = departure.to; octets = departure.octets }

abbrev pub listed_in : List Event → List Datagram
listed_in events = map plain (given events)

-- Of datagrams, those that leave from the socket at a place.
abbrev pub at_socket : ℕ → Departure → Option Datagram
at_socket place departure = if place == departure.socket then Some (plain departure) else None

abbrev pub from_socket : ℕ → List Departure → List Datagram
from_socket place departures = filter_map (at_socket place) departures

-- Each socket that keeps a list took those of these datagrams that leave from it, each once and in order, and nothing else.
abbrev pub HaveTaken : {S : Type 0} → (S → Option (List Datagram)) → List (ReadySocket S) → List Departure → Type 0
HaveTaken took sockets departures = (place : ℕ) → IfSome (took_at took sockets place) (λ datagrams. datagrams ≡ from_socket place departures)

-- The list of a socket that keeps one.
abbrev pub list_of : {S : Type 0} → Listed S → Option (List Datagram)
list_of socket = Some (listed_in socket.taken.passed)

-- Each of these sockets took those of these datagrams that leave from it, each once and in order, and nothing else.
abbrev pub TookThese : {S : Type 0} → List (ReadySocket (Listed S)) → List Departure → Type 0
TookThese sockets departures =
    (place : ℕ) (datagrams : List Datagram) → took_at list_of sockets place ≡ Some datagrams → datagrams ≡ from_socket place departures
