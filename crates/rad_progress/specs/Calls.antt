-- Calls of a lane (own).
use Rattle.std.specs.Prelude.{◌≡◌, ⊤, ℕ, ◌+◌, List, [], ◌∷◌}
use Rattle.rad_lane.specs.declared.stepping.Action.TheVariants.{Idle}
use Rattle.rad_lane.specs.declared.running.Event.{Event}
use Rattle.rad_lane.specs.declared.running.Event.TheVariants.{Accept as accept, Step as step, Hear as hear}
use Rattle.rad_lane.specs.declared.running.GivenAnswer.{GivenAnswer}
use Rattle.rad_lane.specs.declared.running.GivenAnswer.TheVariants.{Step as stepped}
use Rattle.rad_lane.specs.declared.running.Given.{Given}
use Rattle.rad_lane.specs.Book.{Book}
use Rattle.rad_lane.specs.Lawful.{IsLawful}
use Rattle.rad_lane.specs.Runs.{Runs}

-- Calls of a lane, made in order, with their results. They leave a lawful book, as the type of a lane keeps it.
pub record Calls (old new : Book) : Type 0 where
  pub before : List ℕ
  pub events : List Event
  pub gives : List Given
  pub runs : Runs old before events gives new
  pub lawful : IsLawful new

-- The call is a request's; or a step's, at this moment; or that of a datagram from the home server.
abbrev pub IsRequest : Event → Type 0
IsRequest (accept request moment) = ⊤
IsRequest event = ⊥

abbrev pub IsStepAt : ℕ → Event → Type 0
IsStepAt now (step moment random) = moment ≡ now
IsStepAt now event = ⊥

abbrev pub IsDatagram : Event → Type 0
IsDatagram (hear moment port datagram) = ⊤
IsDatagram event = ⊥

-- The last of the results is that of an idle step.
abbrev pub IsIdle : GivenAnswer → Type 0
IsIdle (stepped (Idle moment)) = ⊤
IsIdle answer = ⊥

abbrev pub EndsIdle : List Given → Type 0
EndsIdle [] = ⊥
EndsIdle (given ∷ []) = IsIdle given.answer
EndsIdle (given ∷ next ∷ later) = EndsIdle (next ∷ later)

-- How many of the calls were steps that were not idle.
abbrev pub taken_by : GivenAnswer → ℕ
taken_by (stepped (Idle moment)) = 0
taken_by (stepped action) = 1
taken_by answer = 0

abbrev pub steps_taken : List Given → ℕ
steps_taken [] = 0
steps_taken (given ∷ gives) = taken_by given.answer + steps_taken gives
