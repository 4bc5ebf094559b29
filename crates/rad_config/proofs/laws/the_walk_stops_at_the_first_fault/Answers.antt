use Rattle.rad_config.proofs.FirstFaults.{first_of_document}
use Rattle.rad_config.proofs.laws.the_walk_stops_at_the_first_fault.Goals as goal

pub returns : goal.returns
returns c = first_of_document
