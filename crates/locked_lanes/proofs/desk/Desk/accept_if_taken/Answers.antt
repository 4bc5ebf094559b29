use Rattle.std.proofs.Common.{refl}
use Rattle.std.specs.Prelude.{Result, Ok, Err}
use Rattle.rad_lane.specs.declared.accepting.Taken.{Taken}
use Rattle.rad_lane.specs.declared.accepting.Refusal.{Refusal}
use Rattle.rad_lane.specs.declared.accepting.Refusal.TheVariants.{Draining, BookFull, QueueFull, TooLong, OutOfMemory, WrongLane}
use Rattle.locked_lanes.specs.Departures.{UnlessWrongLane}
use Rattle.locked_lanes.proofs.Found.{another}
use Rattle.locked_lanes.proofs.desk.Desk.accept_if_taken.Goals as goal

-- What holds of every result holds of each but `WrongLane`.
unless : (result : Result Taken Refusal) (fact : Type 0) → fact → UnlessWrongLane result fact
unless (Ok taken) fact h = h
unless (Err WrongLane) fact h = tt
unless (Err Draining) fact h = h
unless (Err BookFull) fact h = h
unless (Err QueueFull) fact h = h
unless (Err TooLong) fact h = h
unless (Err OutOfMemory) fact h = h

pub returns-clause-accepts : goal.returns-clause-accepts
returns-clause-accepts c = unless c.accept.result _ c.accept.ensures.lawful

pub accept-requires : goal.accept-requires
accept-requires c = c.takes.ensures.0 cc

pub returns-then-not-takes-clause-wrong : goal.returns-then-not-takes-clause-wrong
returns-then-not-takes-clause-wrong c = (another _ c.takes.result c.takes.ensures c.if-not-takes.true, refl)
