use Rattle.rad_progress.proofs.ServedInRounds.{drained_done}
use Rattle.rad_progress.proofs.serving.a_drained_lane_is_done.Goals as goal

pub returns : goal.returns
returns c = λ n old new lawful range h some. drained_done old lawful.probe_apart range n new h some
