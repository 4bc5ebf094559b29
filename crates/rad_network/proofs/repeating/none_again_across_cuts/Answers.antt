use Rattle.rad_network.proofs.NoneAgain.{none_again}
use Rattle.rad_network.proofs.repeating.none_again_across_cuts.Goals as goal

pub returns : goal.returns
returns c = none_again
