-- What a desk returns for a datagram from the home server, and the desk after it (own). The ring is checked first,
-- before the datagram is read.
use Rattle.std.specs.Prelude.{◌≡◌, ℕ, ◌+◌, ◌<◌, ◌≤◌, List, [], ◌∷◌, ◌++◌, Result, Ok, Err}
use Rattle.rad_lane.specs.declared.outgoing.Outgoing.{Outgoing}
use Rattle.rad_lane.specs.declared.hearing.Heard.TheVariants as heard
use Rattle.rad_lane.specs.Hears.{Hears}
use Rattle.locked_lanes.specs.declared.desk.Desk.{Desk}
use Rattle.locked_lanes.specs.declared.hearing.Told.{Told}
use Rattle.locked_lanes.specs.declared.hearing.Told.TheVariants.{Answer, ProbeAnswered}
use Rattle.locked_lanes.specs.declared.hearing.DeskFault.{DeskFault}
use Rattle.locked_lanes.specs.declared.hearing.DeskFault.TheVariants.{RingFull, Lane}
use Rattle.locked_lanes.specs.Desk.{book, given, free_places, SameRing}

-- The result by the number of free places that the check of the ring saw. If there is none, nothing is heard. Otherwise
-- the lane hears, and the response to an answer, the one that the lane gave, is added to the ring.
abbrev pub TellsBy : ℕ → Desk → ℕ → ℕ → List ℕ → Result Told DeskFault → Desk → Type 0
TellsBy free old moment port datagram (Err RingFull) new =
    (free ≡ 0) × (book new ≡ book old) × (given new ≡ given old) × (free_places new ≡ free)
TellsBy free old moment port datagram (Err (Lane fault)) new =
    (0 < free) × Hears (book old) moment port datagram (Err fault) (book new)
    × (given new ≡ given old) × (free_places new ≡ free)
TellsBy free old moment port datagram (Ok ProbeAnswered) new =
    (0 < free) × Hears (book old) moment port datagram (Ok heard.ProbeAnswered) (book new)
    × (given new ≡ given old) × (free_places new ≡ free)
TellsBy free old moment port datagram (Ok (Answer serial)) new =
    (0 < free) × (response : Outgoing) × (serial ≡ response.serial)
    × Hears (book old) moment port datagram (Ok (heard.Answer response)) (book new)
    × (given new ≡ given old ++ response ∷ []) × (free_places new + 1 ≡ free)

-- The check sees all free places that were known, or more.
pub record Tells (old : Desk) (moment port : ℕ) (datagram : List ℕ) (result : Result Told DeskFault) (new : Desk) : Type 0 where
  pub free : ℕ
  pub seen : free_places old ≤ free
  pub tells : TellsBy free old moment port datagram result new
  pub ring : SameRing old new
