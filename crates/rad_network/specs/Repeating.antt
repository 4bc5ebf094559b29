-- All requests that a lane ever accepted, and all its answers, however often its book was cut (own).
use Rattle.std.specs.Prelude.{◌≡◌, ℕ, ◌+◌, ◌≤◌, List, [], ◌++◌, Ok}
use Rattle.std.specs.List.{Contains, flat_map}
use Rattle.rad_lane.specs.declared.stamp.Stamp.{Stamp}
use Rattle.rad_lane.specs.declared.running.GivenAnswer.{GivenAnswer}
use Rattle.rad_lane.specs.declared.running.GivenAnswer.TheVariants.{Turn as turned}
use Rattle.rad_lane.specs.Stamp.{key_of}
use Rattle.rad_lane.specs.Outstanding.{AnswerKept}
use Rattle.rad_lane.specs.Book.{Book}
use Rattle.rad_lane.specs.LosesNone.{stamps_cut}
use Rattle.rad_network.specs.Happens.{Happening}
use Rattle.rad_network.specs.Happens.Happening.{called}

-- The requests that a call cut off the book, and their answers.
abbrev pub requests_gone : Happening → List Stamp
requests_gone (called event answer d) = stamps_cut answer
requests_gone happening = []

abbrev pub answers_in : GivenAnswer → List AnswerKept
answers_in (turned (Ok volume)) = volume.answered
answers_in answer = []

abbrev pub answers_gone : Happening → List AnswerKept
answers_gone (called event answer d) = answers_in answer
answers_gone happening = []

-- The requests of all volumes followed by those of the book: all that the lane ever accepted, in order; and all answers.
abbrev pub accepted_ever : List Happening → Book → List Stamp
accepted_ever happenings book = flat_map requests_gone happenings ++ book.accepted

abbrev pub answers_ever : List Happening → Book → List AnswerKept
answers_ever happenings book = flat_map answers_gone happenings ++ book.answered

-- If the later request has the key of the earlier one, then the earlier one was answered, and the later one was accepted
-- at least a span after that answer.
abbrev pub IsAgainAfterItsSpan : List AnswerKept → ℕ → Stamp → Stamp → Type 0
IsAgainAfterItsSpan answers span earlier later =
    key_of earlier ≡ key_of later
    → (answer : AnswerKept) × Contains answers answer × (answer.stamp ≡ earlier) × (answer.moment + span ≤ later.moment)
