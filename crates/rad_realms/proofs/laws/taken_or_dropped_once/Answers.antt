use Rattle.rad_realms.proofs.Exclusive.{dropped_once, taken_not_dropped}
use Rattle.rad_realms.proofs.laws.taken_or_dropped_once.Goals as goal

pub returns-clause-reason : goal.returns-clause-reason
returns-clause-reason c = dropped_once

pub returns-clause-taken : goal.returns-clause-taken
returns-clause-taken c = taken_not_dropped
