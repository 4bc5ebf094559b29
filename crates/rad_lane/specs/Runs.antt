-- A run (own): the calls of a list of events, made in order. Each begins with the book and the datagram that the one
-- before it left.
use Rattle.std.specs.Prelude.{◌≡◌, ⊤, ℕ, List, [], ◌∷◌, All}
use Rattle.rad_lane.specs.declared.running.Event.{Event}
use Rattle.rad_lane.specs.declared.running.Event.TheVariants.{Accept as accept, Step as step, Hear as hear, Drain as drain, Turn as turn}
use Rattle.rad_lane.specs.declared.running.GivenAnswer.{GivenAnswer}
use Rattle.rad_lane.specs.declared.running.GivenAnswer.TheVariants.{Accept as accepted, Step as stepped, Hear as heard, Drain as drained, Turn as turned}
use Rattle.rad_lane.specs.declared.running.Given.{Given}
use Rattle.rad_lane.specs.Book.{Book}
use Rattle.rad_lane.specs.Datagrams.{Datagrams}
use Rattle.rad_lane.specs.Accepts.{Accepts, IsTaken}
use Rattle.rad_lane.specs.Steps.{Steps, AllotsAnother}
use Rattle.rad_lane.specs.Hears.{Hears}
use Rattle.rad_lane.specs.Drains.{Drains}
use Rattle.rad_lane.specs.Volumes.{Turns}

-- The results that the call of an event may have, and the datagram and the book after it. A pair that a step allots
-- is not the one allotted before it.
abbrev pub Gives : Book → Event → GivenAnswer → Datagrams → Book → Type 0
Gives old (accept request moment) (accepted result) d new = Accepts old request.now moment result d new
Gives old (step moment random) (stepped action) d new = Steps old moment random action d new × AllotsAnother old action
Gives old (hear moment port datagram) (heard result) d new = Hears old moment port datagram.now result new × (d.after ≡ d.before)
Gives old drain (drained count) d new = Drains old count new × (d.after ≡ d.before)
Gives old (turn moment) (turned result) d new = Turns old moment result new × (d.after ≡ d.before)
Gives old event answer d new = ⊥

-- Each event has one result.
abbrev pub Runs : Book → List ℕ → List Event → List Given → Book → Type 0
Runs old before [] [] new = new ≡ old
Runs old before (event ∷ events) (given ∷ gives) new =
    (next : Book) × Gives old event given.answer (record { before = before; after = given.datagram }) next
    × Runs next given.datagram events gives new
Runs old before [] (given ∷ gives) new = ⊥
Runs old before (event ∷ events) [] new = ⊥

-- If the event is a request, the lane takes it.
abbrev pub TakesEvent : Book → Event → Type 0
TakesEvent book (accept request moment) = IsTaken book request.now
TakesEvent book (step moment random) = ⊤
TakesEvent book (hear moment port datagram) = ⊤
TakesEvent book drain = ⊤
TakesEvent book (turn moment) = ⊤

abbrev pub TakesEach : Book → List Event → Type 0
TakesEach book events = All (TakesEvent book) events
