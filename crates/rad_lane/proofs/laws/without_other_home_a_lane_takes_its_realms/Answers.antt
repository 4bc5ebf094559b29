use Rattle.rad_lane.proofs.LeadsToItsLane.{nothing_beside, takes_as_before}
use Rattle.rad_lane.proofs.laws.without_other_home_a_lane_takes_its_realms.Goals as goal

pub returns-clause-setup : goal.returns-clause-setup
returns-clause-setup c = nothing_beside

pub returns-clause-takes : goal.returns-clause-takes
returns-clause-takes c = takes_as_before
