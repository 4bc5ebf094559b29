use Rattle.std.proofs.Common.{ℕ, ◌<◌, get_or}
use Rattle.rad_lane.specs.Outstanding.{AnswerKept}
use Rattle.locked_lanes.specs.Ending.{AgreesAmong}
use Rattle.locked_lanes.proofs.ending.agree.Given as goal

abbrev pub invariant-loop-answer : goal.invariant-loop-answer
invariant-loop-answer l = (k : ℕ) (d : AnswerKept) → k < l.answer-index → AgreesAmong l.rest (get_or l.answered k d)
