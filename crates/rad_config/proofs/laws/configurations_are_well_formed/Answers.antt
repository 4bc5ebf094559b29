use Rattle.rad_config.proofs.WellFormed.{well_formed}
use Rattle.rad_config.proofs.laws.configurations_are_well_formed.Goals as goal

pub returns : goal.returns
returns c = well_formed
