use Rattle.rad_lane.proofs.UnknownPort.{unknown_port}
use Rattle.rad_lane.proofs.laws.a_port_that_a_lane_lacks_is_unknown.Goals as goal

pub returns : goal.returns
returns c = unknown_port
