use Rattle.std.proofs.Common.{refl, ◌∙◌}
use Rattle.rad_lane.proofs.SendingAllowed.{may_be_sent, no_room, never_empty, none_queued}
use Rattle.rad_lane.proofs.lane.Lane.may_send.Goals as goal

pub returns-then-not-is_empty-clause-may : goal.returns-then-not-is_empty-clause-may
returns-then-not-is_empty-clause-may g c =
    may_be_sent _ _ c.self.view_is _ refl c.is_empty.result c.is_empty.ensures c.if-not-is_empty.true c.self.inside.outstanding c.self.invariant.consistent.counted c.numbers.result (c.numbers.ensures.value ∙ c.limits.ensures.value)

pub returns-then-not-is_empty-clause-not : goal.returns-then-not-is_empty-clause-not
returns-then-not-is_empty-clause-not g c =
    no_room _ _ c.self.view_is _ refl c.is_empty.result c.is_empty.ensures c.if-not-is_empty.true c.self.inside.outstanding c.self.invariant.consistent.counted c.numbers.result (c.numbers.ensures.value ∙ c.limits.ensures.value)

pub returns-else-not-is_empty-clause-may : goal.returns-else-not-is_empty-clause-may
returns-else-not-is_empty-clause-may g c = never_empty _ _ c.self.view_is _ refl c.is_empty.result c.is_empty.ensures c.if-not-is_empty.false

pub returns-else-not-is_empty-clause-not : goal.returns-else-not-is_empty-clause-not
returns-else-not-is_empty-clause-not g c = none_queued _ _ c.self.view_is _ refl c.is_empty.result c.is_empty.ensures c.if-not-is_empty.false
