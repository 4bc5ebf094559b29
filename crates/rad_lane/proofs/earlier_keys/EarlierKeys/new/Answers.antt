use Rattle.rad_lane.proofs.KeysByAge.{none_below}
use Rattle.rad_lane.proofs.earlier_keys.EarlierKeys.new.Goals as goal

pub invariant_of-result : goal.invariant_of-result
invariant_of-result c = record { below = none_below 0 c.new.result c.new.ensures }
