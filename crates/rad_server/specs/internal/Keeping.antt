-- The datagrams that are kept, of each client in order (own). No public clause cites this module.
use Rattle.std.specs.Prelude.{◌≡◌, ◌≢◌, ℕ, zero, suc, ◌-◌, nat_le, Bool, false, List, [], ◌∷◌, ◌++◌, length, map, take, slice_get, bytes_eq, Option, Some, None}
use Rattle.std.specs.List.{All, AllPairs, HoldsAt, filter, flat_map}
use Rattle.rad_server.specs.internal.Taken.{Departure}
use Rattle.rad_server.specs.declared.sending.client_queue.ClientQueue.{ClientQueue}
use Rattle.rad_server.specs.declared.sending.outbox.Waiting.{Waiting}
use Rattle.rad_server.specs.declared.sending.outbox.Outbox.{Outbox}
use Rattle.rad_server.specs.declared.sending.outbox.Sent.{Sent}

-- What waits to be handed to the system, by where it leaves from, where it goes, and its octets.
abbrev pub departure_of : Waiting → Departure
departure_of waiting = record { socket = waiting.socket; to = waiting.to; octets = waiting.octets.items }

-- What is kept in a client's queue, and in all queues.
abbrev pub queued : ClientQueue → List Departure
queued queue = map departure_of queue.datagrams.items

abbrev pub kept_in : List ClientQueue → List Departure
kept_in queues = flat_map queued queues

-- Of datagrams, those for this client.
abbrev pub is_for : List ℕ → Departure → Bool
is_for client departure = bytes_eq departure.to.address client

abbrev pub for_client : List ℕ → List Departure → List Departure
for_client client departures = filter (is_for client) departures

-- A queue has datagrams for its client alone, and no other queue has one for it.
abbrev pub IsOfClient : ClientQueue → Type 0
IsOfClient queue = All (λ departure. departure.to.address ≡ queue.client) (queued queue)

abbrev pub AreOfClients : List ClientQueue → Type 0
AreOfClients queues = All IsOfClient queues

abbrev pub AreApart : List ClientQueue → Type 0
AreApart queues = AllPairs (λ one other. one.client ≢ other.client) queues

-- The queue at this place, if there is one, is of this client.
abbrev pub IsPlaceOf : List ℕ → List ClientQueue → ℕ → Type 0
IsPlaceOf client queues place = HoldsAt (λ queue. queue.client ≡ client) queues place

-- The oldest one of the queue at a place.
abbrev pub first_in : ClientQueue → Option Waiting
first_in queue = slice_get queue.datagrams.items 0

abbrev pub first_at : List ClientQueue → ℕ → Option Waiting
first_at [] place = None
first_at (queue ∷ queues) zero = first_in queue
first_at (queue ∷ queues) (suc place) = first_at queues place

-- How many are in the queue at a place.
abbrev pub len_at : List ClientQueue → ℕ → ℕ
len_at [] place = 0
len_at (queue ∷ queues) zero = length queue.datagrams.items
len_at (queue ∷ queues) (suc place) = len_at queues place

-- What is sent, and that it waits.
abbrev pub sent_departure : Sent → Departure
sent_departure sent = record { socket = sent.socket; to = sent.to; octets = sent.octets.now }

pub record IsWaiting (sent : Sent) (waiting : Waiting) : Type 0 where
  pub moment : sent.moment ≡ waiting.moment
  pub departure : sent_departure sent ≡ departure_of waiting

abbrev pub IsFirst : Option Waiting → Sent → Type 0
IsFirst None sent = ⊥
IsFirst (Some waiting) sent = IsWaiting sent waiting

-- It was sent 2000 milliseconds ago, or longer.
abbrev pub is_old : ℕ → Option Waiting → Bool
is_old now None = false
is_old now (Some waiting) = nat_le 2000 (now - waiting.moment)

-- What an outbox holds, in order.
abbrev pub waiting_in : Outbox → List Departure
waiting_in outbox = map departure_of (take outbox.count outbox.datagrams.items)

-- A datagram, if there is one.
abbrev pub one_or_none : Option Waiting → List Departure
one_or_none None = []
one_or_none (Some waiting) = departure_of waiting ∷ []

-- Of each client, what was kept and this behind it are what is gone and, behind that, what is kept now.
abbrev pub KeepsOrder : List Departure → List Departure → List Departure → List Departure → Type 0
KeepsOrder old came gone new = (client : List ℕ) → for_client client old ++ for_client client came ≡ for_client client gone ++ for_client client new
