use Rattle.rad_progress.proofs.ServedInRounds.{full}
use Rattle.rad_progress.proofs.serving.a_full_window_takes_all_the_rounds.Goals as goal

pub returns : goal.returns
returns c = λ n old new lawful range. full old lawful.probe_apart range n new
