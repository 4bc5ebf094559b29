-- What a contract sees of an inlet (own).
use Rattle.std.specs.Prelude.{◌≡◌, ℕ, ◌<◌, ◌≤◌, List, [], ◌++◌, length, MatchOption}
use Rattle.std.specs.Vec.{vec_capacity}
use Rattle.rtrb.specs.Ring.{received, known_items, consumer_capacity, IsPair, SameConsumer}
use Rattle.rad_lane.specs.declared.outgoing.Outgoing.{Outgoing}
use Rattle.locked_lanes.specs.declared.desk.Desk.{Desk}
use Rattle.locked_lanes.specs.declared.inlet.Inlet.{Inlet}

-- the number of its lane
abbrev pub lane_of : Inlet → ℕ
lane_of inlet = inlet.lane

-- all responses that it took, in order
abbrev pub taken : Inlet → List Outgoing
taken inlet = received inlet.taker

-- the responses that it has seen in the ring: it takes these next
abbrev pub seen : Inlet → List Outgoing
seen inlet = known_items inlet.taker

-- It is the inlet of the same ring and lane.
pub record SameInlet (old new : Inlet) : Type 0 where
  pub lane : lane_of new ≡ lane_of old
  pub ring : SameConsumer old.taker new.taker

-- The desk's sending end and the inlet's receiving end are of one ring.
abbrev pub AreOfOneRing : Desk → Inlet → Type 0
AreOfOneRing desk inlet = IsPair desk.giver inlet.taker

-- how many places its ring has
abbrev pub places_of : Inlet → ℕ
places_of inlet = consumer_capacity inlet.taker

-- Nothing was taken, and the ring was not looked at.
pub record IsUntouched (old new : Inlet) : Type 0 where
  pub lane : lane_of new ≡ lane_of old
  pub taker : new.taker ≡ old.taker

-- It has empty room for as many responses as its ring can hold.
abbrev pub HasRoom : Inlet → Type 0
HasRoom inlet = MatchOption inlet.room ⊥ (λ room. (room.items ≡ []) × (places_of inlet ≤ vec_capacity room))

-- The inlet takes these responses. If they are fewer than the ring has places, it sees no other afterwards.
pub record Empties (old : Inlet) (rest : List Outgoing) (new : Inlet) : Type 0 where
  pub took : taken new ≡ taken old ++ rest
  pub all : length rest < places_of old → seen new ≡ []
  pub same : SameInlet old new
