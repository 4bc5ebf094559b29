-- Which datagrams have to wait behind requests that wait, of earlier runs first (own).
use Rattle.std.specs.Prelude.{◌≡◌, ◌⊎◌, ◌==◌, not, ℕ, Bool, true, false, List, [], ◌∷◌, Option, Some, None, is_some, length, min, take, drop, IsTrue, if◌then◌else◌}
use Rattle.std.specs.List.{slice_get}
use Rattle.std.specs.FinMap as map
use Rattle.rad_tables.specs.declared.duplicates.Key.{Key}
use Rattle.rad_tables.specs.Keys.{key_cmp}
use Rattle.rad_lane.specs.Accepts.{request_key}
use Rattle.rad_config.specs.declared.reading.address.Endpoint.{Endpoint}
use Rattle.rad_desk.specs.declared.wire.Received.{Received}
use Rattle.rad_desk.specs.declared.wire.Received.TheVariants.{Got}
use Rattle.rad_realms.specs.Configuration.{Configuration}
use Rattle.rad_realms.specs.Checking.{Request, Status, Drops}
use Rattle.rad_realms.specs.Incoming.{Takes}
use Rattle.rad_realms.specs.declared.checking.Dropped.{Dropped}
use Rattle.rad_realms.specs.declared.checking.Incoming.TheVariants as incoming
use Rattle.spool_writer.specs.declared.waiting_keys.WaitingRequest.{WaitingRequest}
use Rattle.spool_writer.specs.declared.offer_notes.Fate.{Fate}
use Rattle.spool_writer.specs.declared.offer_notes.Fate.TheVariants as fate
use Rattle.spool_writer.specs.declared.offers.LaneOffers.{LaneOffers}

abbrev pub first_of : List WaitingRequest → Option WaitingRequest
first_of [] = None
first_of (request ∷ more) = Some request

abbrev pub requests_of : Option LaneOffers → List WaitingRequest
requests_of None = []
requests_of (Some offers) = offers.requests.items

-- The requests of a lane that wait, in their order.
abbrev pub waiting_for : List LaneOffers → ℕ → List WaitingRequest
waiting_for lanes lane = requests_of (slice_get lanes lane)

-- The request of a lane that waits and came first, if one waits.
abbrev pub waiting_at : List LaneOffers → ℕ → Option WaitingRequest
waiting_at lanes lane = first_of (waiting_for lanes lane)

-- The requests of a lane that wait become these, and those of other lanes stay.
pub record BecomesFor (old new : List LaneOffers) (lane : ℕ) (requests : List WaitingRequest) : Type 0 where
  pub its : waiting_for new lane ≡ requests
  pub others : (other : ℕ) → ¬ (other ≡ lane) → waiting_for new other ≡ waiting_for old other

-- A request of the lane waits.
abbrev pub HasWaiting : Option (List LaneOffers) → ℕ → Type 0
HasWaiting None lane = ⊥
HasWaiting (Some lanes) lane = IsTrue (is_some (waiting_at lanes lane))

-- The number of the request of a key, if it waits (0) or was taken since.
abbrev pub number_at : map.FinMap key_cmp ℕ → Key → Option ℕ
number_at numbers key = map.get numbers key

abbrev pub is_taken : Option ℕ → Bool
is_taken None = false
is_taken (Some number) = not (number == 0)

-- A request has to wait if requests of its lane wait, and none of its key was taken since.
abbrev pub RequestWaits : (ℕ → Type 0) → (Key → Option ℕ) → Request → Bool → Type 0
RequestWaits Waiting number request true = Waiting request.lane × (is_taken (number (request_key request)) ≡ false)
RequestWaits Waiting number request false = (¬ Waiting request.lane) ⊎ (is_taken (number (request_key request)) ≡ true)

-- A datagram has to wait if it is such a request.
abbrev pub Waits : Configuration → (ℕ → Type 0) → (Key → Option ℕ) → Endpoint → List ℕ → Bool → Type 0
Waits config Waiting number from octets true =
    (request : Request) × Takes config from.address from.port octets (incoming.Request request) × RequestWaits Waiting number request true
Waits config Waiting number from octets false =
    ((lane : ℕ) → ¬ Waiting lane)
    ⊎ ((request : Request) × Takes config from.address from.port octets (incoming.Request request) × RequestWaits Waiting number request false)
    ⊎ ((status : Status) × Takes config from.address from.port octets (incoming.Status status))
    ⊎ ((reason : Dropped) × Drops config from.address octets reason)

-- A request is given from where it came, to its socket, with its octets, of which there are 4096 at most.
pub record IsGivenAs (request : WaitingRequest) (datagram : List ℕ) (received : Received) : Type 0 where
  pub count : ℕ
  pub most : count ≡ min (length request.octets.items) 4096
  pub is : received ≡ Got request.key.client request.key.port request.socket count
  pub octets : take count datagram ≡ take count request.octets.items

abbrev pub first_in : Option (List LaneOffers) → ℕ → Option WaitingRequest
first_in None lane = None
first_in (Some lanes) lane = waiting_at lanes lane

-- What is given is the request of the lane that waits and came first.
pub record IsFirstOf (lanes : Option (List LaneOffers)) (lane : ℕ) (datagram : List ℕ) (received : Received) : Type 0 where
  pub request : WaitingRequest
  pub first : first_in lanes lane ≡ Some request
  pub given : IsGivenAs request datagram received

-- The requests that wait for a lane, in their order.
abbrev pub waiting_in : Option (List LaneOffers) → ℕ → List WaitingRequest
waiting_in None lane = []
waiting_in (Some lanes) lane = waiting_for lanes lane

-- A lane is done with a request of which this became: it has it, or does not take it for another reason than want of room.
abbrev pub is_done_with : Fate → Bool
is_done_with fate.Taken = true
is_done_with fate.Known = true
is_done_with fate.Over = true
is_done_with fate.QueueFull = false
is_done_with fate.BookFull = false
is_done_with fate.NoMemory = false
is_done_with fate.Drained = false

-- The first request of a lane waits no more if the lane is done with it. All others wait on, in their order.
pub record Settles (fate : Fate) (lane : ℕ) (old new : Option (List LaneOffers)) : Type 0 where
  pub its : waiting_in new lane ≡ (if is_done_with fate then drop 1 (waiting_in old lane) else waiting_in old lane)
  pub others : (other : ℕ) → ¬ (other ≡ lane) → waiting_in new other ≡ waiting_in old other
