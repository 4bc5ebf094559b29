use Rattle.std.proofs.Common.{arith}
use Rattle.rad_lane.proofs.NextDueFound.{next_seen, none_seen, none_in_use}
use Rattle.rad_lane.proofs.lane.Lane.next_due.Goals as goal

pub returns-in-None : goal.returns-in-None
returns-in-None g c = none_in_use _ _ c.self.view_is _ _ c.in-None.ensures

pub returns-then-first-get : goal.returns-then-first-get
returns-then-first-get g c =
    next_seen _ _ c.self.view_is c.requires c.self.invariant.consistent.lawful.probe_apart _ _ _ c.in-Some.ensures
    (omega (arith, c.if-first-get.true, c.get.ensures.value))

pub returns-else-first-get : goal.returns-else-first-get
returns-else-first-get g c =
    none_seen _ _ c.self.view_is c.requires c.self.invariant.consistent.lawful.probe_apart _ _ _ c.in-Some.ensures
    (omega (arith, c.if-first-get.false, c.get.ensures.value))
