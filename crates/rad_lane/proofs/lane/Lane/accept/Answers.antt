use Rattle.rad_lane.proofs.lane.Lane.accept.Goals as goal

pub returns-in-Ok : goal.returns-in-Ok
returns-in-Ok g c = c.accept_free.ensures
