use Rattle.rad_lane.proofs.LawfulAfterAnswer.{there_by}
use Rattle.rad_lane.proofs.SpentFound.{first_spent}
use Rattle.rad_lane.proofs.lane.Lane.spent.Goals as goal

pub returns-in-Some-Sending : goal.returns-in-Some-Sending
returns-in-Some-Sending g c =
    let there = there_by _ _ _ c.in-Some-Sending.ensures.value c.in-Some-Sending.field-0-is in
    first_spent _ _ c.self.view_is _ c.in_ok-slot.ensures c.in-Some-Sending.sending there
