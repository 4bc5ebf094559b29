-- What became of the datagrams that a worker sent (own). No public clause cites this module.
use Rattle.std.specs.Prelude.{◌≡◌, ◌⊎◌, ◌≤◌, ℕ, List, [], ◌∷◌, ◌++◌, length, Option, Some, None}
use Rattle.rad_desk.specs.declared.wire.Delivery.{Delivery}
use Rattle.rad_desk.specs.declared.wire.Delivery.TheVariants.{Sent, Fault}
use Rattle.rad_server.specs.internal.Keeping.{for_client, kept_in, waiting_in}
use Rattle.rad_server.specs.internal.Taken.{Departure, given, taken}
use Rattle.rad_server.specs.declared.sending.departing.Departures.{Departures}
use Rattle.rad_server.specs.declared.sending.kept.Kept.{Kept}

-- What is kept, and that of a worker that may keep nothing.
abbrev pub kept_list : Kept → List Departure
kept_list kept = kept_in kept.queues.list.items

abbrev pub kept_of : Option Kept → List Departure
kept_of None = []
kept_of (Some kept) = kept_list kept

-- There is no room for another one of this client: it has 64, or there are 2048 in all.
abbrev pub IsFull : List ℕ → List Departure → Type 0
IsFull client kept = (64 ≤ length (for_client client kept)) ⊎ (2048 ≤ length kept)

-- A datagram, unless it was lost at once.
abbrev pub came_if : Delivery → Departure → List Departure
came_if Sent departure = departure ∷ []
came_if Fault departure = []

-- Of each client, in order: what was gone and kept, and behind it what came, is gone now or kept now.
abbrev pub GoesOn : List Departure → List Departure → List Departure → List Departure → List Departure → Type 0
GoesOn was_gone was_kept came gone kept =
    (client : List ℕ) → (for_client client was_gone ++ for_client client was_kept) ++ for_client client came ≡ for_client client gone ++ for_client client kept

-- Of each client, in order: what was taken on is gone or kept.
abbrev pub AreInOrder : List Departure → List Departure → List Departure → Type 0
AreInOrder on gone kept = (client : List ℕ) → for_client client on ≡ for_client client gone ++ for_client client kept

-- What was sent, in order, was handed over or waits in the outbox. Of what was handed over and not lost at once, each client's datagrams are, in
-- order, gone, to their sockets or lost, or kept.
pub record IsAccounted {G : Type 0} (sent : List Departure) (departures : Departures G) : Type 0 where
  pub handed : sent ≡ given departures.account.handed.passed ++ waiting_in departures.outbox
  pub in_order : AreInOrder (taken departures.account.handed.passed) (given departures.account.gone.passed) (kept_of departures.kept)
