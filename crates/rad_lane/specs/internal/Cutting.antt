-- How a lane finds the requests at the start of its book that are over (own). No public clause cites this
-- module.
use Rattle.std.specs.Prelude.{ℕ, ◌+◌, ◌≤◌, Option, Some, None}
use Rattle.rad_lane.specs.declared.answered.AnswerIndex.{AnswerIndex}

-- There is an answer index, of an answer given at least a span ago.
abbrev pub IsOverBy : ℕ → ℕ → Option AnswerIndex → Type 0
IsOverBy span now None = ⊥
IsOverBy span now (Some answer_index) = answer_index.moment + span ≤ now
