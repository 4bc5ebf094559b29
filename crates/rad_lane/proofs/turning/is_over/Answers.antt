use Rattle.std.proofs.Common.{rules}
use Rattle.rad_lane.proofs.turning.is_over.Goals as goal

pub returns-in-Some-clause-over : goal.returns-in-Some-clause-over
returns-in-Some-clause-over c = search rules

pub returns-in-None-clause-over : goal.returns-in-None-clause-over
returns-in-None-clause-over c = tt
