use Rattle.std.proofs.Common.{refl, inl, inr}
use Rattle.rad_desk.specs.Traffic.{told}
use Rattle.rad_desk.specs.Calls.{IsALook}
use Rattle.rad_desk.proofs.CallsJoined.{passes_one, passes_none}
use Rattle.rad_desk.proofs.lanes.follow.Goals as goal

pub returns-in-WentDown-clause-looks : goal.returns-in-WentDown-clause-looks
returns-in-WentDown-clause-looks g c = passes_one IsALook (told c.now-now.result) _ _ (inr (c.now-now.result, refl)) c.now-now.ensures

pub returns-in-WentUp-clause-looks : goal.returns-in-WentUp-clause-looks
returns-in-WentUp-clause-looks g c = passes_none IsALook _ _ (inl refl) refl

pub returns-in-Idle-clause-looks : goal.returns-in-Idle-clause-looks
returns-in-Idle-clause-looks g c = c.cut.ensures.looks

pub returns-clause-looks : goal.returns-clause-looks
returns-clause-looks g c = passes_none IsALook _ _ (inl refl) refl
