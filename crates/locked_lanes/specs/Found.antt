-- What a call through a lock states of the lane that it found (own): a lawful one. A call for the lane of a number compares
-- it with the lane's own number, under the same hold of the lock, and leaves another lane as it is.
use Rattle.std.specs.Prelude.{◌≡◌, ◌≢◌, ◌⊎◌, ⊤, ℕ, List, option_map, Option, None, MatchOption, Result, Ok, Err}
use Rattle.rad_tables.specs.declared.slots.Slot.{Slot}
use Rattle.rad_lane.specs.declared.accepting.Taken.{Taken}
use Rattle.rad_lane.specs.declared.accepting.Refusal.{Refusal}
use Rattle.rad_lane.specs.declared.accepting.Refusal.TheVariants.{Draining, BookFull, QueueFull, TooLong, OutOfMemory, WrongLane}
use Rattle.rad_lane.specs.declared.hearing.HearFault.TheVariants.{Unknown}
use Rattle.rad_lane.specs.declared.stepping.Action.{Action}
use Rattle.rad_lane.specs.Book.{Book}
use Rattle.rad_lane.specs.Datagrams.{Datagrams}
use Rattle.rad_lane.specs.Steps.{Steps}
use Rattle.rad_lane.specs.Drains.{Drains}
use Rattle.rad_lane.specs.Dues.{NoneSpent}
use Rattle.rad_lane.specs.Lawful.{IsLawful}
use Rattle.locked_lanes.specs.declared.desk.Desk.{Desk}
use Rattle.locked_lanes.specs.declared.hearing.Told.{Told}
use Rattle.locked_lanes.specs.declared.hearing.DeskFault.{DeskFault}
use Rattle.locked_lanes.specs.declared.hearing.DeskFault.TheVariants.{Lane}
use Rattle.locked_lanes.specs.declared.origin.Origin.{Origin}
use Rattle.locked_lanes.specs.declared.spent.Spent.{Spent}
use Rattle.locked_lanes.specs.Desk.{book, SameOutlet}
use Rattle.locked_lanes.specs.Tells.{Tells}
use Rattle.locked_lanes.specs.Spent.{TellsSpent}
use Rattle.locked_lanes.specs.Origin.{origin_of, outstanding_under}

-- The fact holds if the result is `WrongLane`.
abbrev pub IfWrongLane : Result Taken Refusal → Type 0 → Type 0
IfWrongLane (Ok taken) fact = ⊤
IfWrongLane (Err WrongLane) fact = fact
IfWrongLane (Err Draining) fact = ⊤
IfWrongLane (Err BookFull) fact = ⊤
IfWrongLane (Err QueueFull) fact = ⊤
IfWrongLane (Err TooLong) fact = ⊤
IfWrongLane (Err OutOfMemory) fact = ⊤

-- One step of a lawful book has this action and these datagrams, and the book is lawful after it.
pub record StepsLawfully (moment : ℕ) (random : List ℕ) (action : Action) (d : Datagrams) : Type 0 where
  pub old : Book
  pub new : Book
  pub lawful : IsLawful old
  pub stays : IsLawful new
  pub steps : Steps old moment random action d new

-- A desk hears a datagram if its lane has this number. Otherwise the datagram is `Unknown`, and lane and ring are
-- unchanged.
abbrev pub HearsFor : ℕ → Desk → ℕ → ℕ → List ℕ → Result Told DeskFault → Desk → Type 0
HearsFor lane old moment port datagram result new =
    (((book old).setup.lane ≡ lane) × Tells old moment port datagram result new)
    ⊎ (((book old).setup.lane ≢ lane) × (result ≡ Err (Lane Unknown)) × (book new ≡ book old) × SameOutlet old new)

-- A desk did so whose book was lawful, and is lawful after it.
pub record HearsLawfully (lane moment port : ℕ) (datagram : List ℕ) (result : Result Told DeskFault) : Type 0 where
  pub old : Desk
  pub new : Desk
  pub lawful : IsLawful (book old)
  pub stays : IsLawful (book new)
  pub hears : HearsFor lane old moment port datagram result new

-- A book is drained if its lane has this number. Otherwise it is unchanged, and the count is 0.
abbrev pub DrainsFor : ℕ → Book → ℕ → Book → Type 0
DrainsFor lane old count new =
    ((old.setup.lane ≡ lane) × Drains old count new) ⊎ ((old.setup.lane ≢ lane) × (count ≡ 0) × (new ≡ old))

-- What is reported of the request that marks the home server down, if the book's lane has this number.
abbrev pub TellsSpentFor : ℕ → Book → ℕ → Option Spent → Type 0
TellsSpentFor lane book moment result =
    ((book.setup.lane ≡ lane) × MatchOption result (NoneSpent book) (TellsSpent book moment))
    ⊎ ((book.setup.lane ≢ lane) × (result ≡ None))

-- So it is of a lawful book.
pub record TellsSpentLawfully (lane moment : ℕ) (result : Option Spent) : Type 0 where
  pub book : Book
  pub lawful : IsLawful book
  pub tells : TellsSpentFor lane book moment result

-- The origin of the request that is outstanding under a pair, if there is one and the book's lane has this number.
abbrev pub TellsOriginFor : ℕ → Book → Slot → Option Origin → Type 0
TellsOriginFor lane book slot result =
    ((book.setup.lane ≡ lane) × (result ≡ option_map (λ o. origin_of o.request) (outstanding_under book slot)))
    ⊎ ((book.setup.lane ≢ lane) × (result ≡ None))

-- So it is of a lawful book.
pub record TellsOriginLawfully (lane : ℕ) (slot : Slot) (result : Option Origin) : Type 0 where
  pub book : Book
  pub lawful : IsLawful book
  pub tells : TellsOriginFor lane book slot result
