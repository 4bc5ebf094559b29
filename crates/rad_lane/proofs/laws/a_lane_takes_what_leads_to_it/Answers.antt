use Rattle.rad_lane.proofs.LeadsToItsLane.{of_its_realms, only_of_its_realms, is_taken}
use Rattle.rad_lane.proofs.laws.a_lane_takes_what_leads_to_it.Goals as goal

pub returns-clause-realm : goal.returns-clause-realm
returns-clause-realm c = of_its_realms

pub returns-clause-only : goal.returns-clause-only
returns-clause-only c = only_of_its_realms

pub returns-clause-taken : goal.returns-clause-taken
returns-clause-taken c = is_taken
