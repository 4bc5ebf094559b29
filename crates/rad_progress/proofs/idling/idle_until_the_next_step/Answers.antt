use Rattle.rad_progress.proofs.NextMoment.{names}
use Rattle.rad_progress.proofs.idling.idle_until_the_next_step.Goals as goal

pub returns : goal.returns
returns c = names
