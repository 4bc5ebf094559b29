use Rattle.rad_config.proofs.WithoutOtherHome.{same_walk, same_faults, same_lane, same_rank}
use Rattle.rad_config.proofs.laws.without_other_home_nothing_changed.Goals as goal

pub returns-clause-walk : goal.returns-clause-walk
returns-clause-walk c = same_walk

pub returns-clause-faults : goal.returns-clause-faults
returns-clause-faults c = same_faults

pub returns-clause-lane : goal.returns-clause-lane
returns-clause-lane c = same_lane

pub returns-clause-rank : goal.returns-clause-rank
returns-clause-rank c = same_rank
