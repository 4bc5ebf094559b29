use Rattle.std.proofs.Common.{refl, inl, inr}
use Rattle.rad_desk.specs.Traffic.{told}
use Rattle.rad_desk.specs.Calls.{IsALook, IsAReading}
use Rattle.rad_desk.proofs.CallsJoined.{passes_none, passes_one}
use Rattle.rad_desk.proofs.lanes.cut.Goals as goal

pub returns-then-not-may-clause-looks : goal.returns-then-not-may-clause-looks
returns-then-not-may-clause-looks g c = passes_none IsALook _ _ (inl refl) refl

pub returns-in-Ok-clause-looks : goal.returns-in-Ok-clause-looks
returns-in-Ok-clause-looks g c = passes_one IsALook (told c.now-now.result) _ _ (inr (c.now-now.result, refl)) c.now-now.ensures

pub returns-in_default-clause-looks : goal.returns-in_default-clause-looks
returns-in_default-clause-looks g c = passes_one IsALook (told c.now-now.result) _ _ (inr (c.now-now.result, refl)) c.now-now.ensures

pub returns-in-Ok-clause-reads : goal.returns-in-Ok-clause-reads
returns-in-Ok-clause-reads g c is = passes_one IsAReading (told c.now-now.result) _ _ (c.now-now.result, refl) c.now-now.ensures

pub returns-in_default-clause-reads : goal.returns-in_default-clause-reads
returns-in_default-clause-reads g c is = passes_one IsAReading (told c.now-now.result) _ _ (c.now-now.result, refl) c.now-now.ensures
