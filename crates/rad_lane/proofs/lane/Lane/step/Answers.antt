use Rattle.std.proofs.Common.{rules}
use Rattle.rad_lane.proofs.lane.Lane.step.Goals as goal

pub returns-in-Up-clause-steps : goal.returns-in-Up-clause-steps
returns-in-Up-clause-steps g c = search rules

pub returns-in-Down-clause-steps : goal.returns-in-Down-clause-steps
returns-in-Down-clause-steps g c = search rules

pub returns-in-Up-clause-another : goal.returns-in-Up-clause-another
returns-in-Up-clause-another g c = c.step_while_up.ensures.another

pub returns-in-Down-clause-another : goal.returns-in-Down-clause-another
returns-in-Down-clause-another g c = c.step_while_down.ensures.another

pub step_while_up-requires-clause-later : goal.step_while_up-requires-clause-later
step_while_up-requires-clause-later g c = c.moment_of-now.ensures.later

pub step_while_down-requires-clause-later : goal.step_while_down-requires-clause-later
step_while_down-requires-clause-later g c = c.moment_of-now.ensures.later

pub step_while_up-requires-clause-is_up : goal.step_while_up-requires-clause-is_up
step_while_up-requires-clause-is_up g c = search rules

pub step_while_down-requires-clause-is_down : goal.step_while_down-requires-clause-is_down
step_while_down-requires-clause-is_down g c = search rules
