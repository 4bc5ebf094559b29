use Rattle.rad_lane.proofs.NotDone.{not_done, done_so}
use Rattle.rad_lane.proofs.accepting.make_room.Goals as goal

pub returns-in_err-reserve_one-clause-accepted_room : goal.returns-in_err-reserve_one-clause-accepted_room
returns-in_err-reserve_one-clause-accepted_room g c = not_done c.from_residual.result _ c.from_residual.ensures.0

pub returns-in_err-reserve_one-clause-answer_indices_room : goal.returns-in_err-reserve_one-clause-answer_indices_room
returns-in_err-reserve_one-clause-answer_indices_room g c = not_done c.from_residual.result _ c.from_residual.ensures.0

pub returns-in_err-reserve_one-clause-queued_room : goal.returns-in_err-reserve_one-clause-queued_room
returns-in_err-reserve_one-clause-queued_room g c = not_done c.from_residual.result _ c.from_residual.ensures.0

pub returns-in_err-reserve_one-2-clause-accepted_room : goal.returns-in_err-reserve_one-2-clause-accepted_room
returns-in_err-reserve_one-2-clause-accepted_room g c = not_done c.from_residual-in_err-reserve_one-2.result _ c.from_residual-in_err-reserve_one-2.ensures.0

pub returns-in_err-reserve_one-2-clause-answer_indices_room : goal.returns-in_err-reserve_one-2-clause-answer_indices_room
returns-in_err-reserve_one-2-clause-answer_indices_room g c = not_done c.from_residual-in_err-reserve_one-2.result _ c.from_residual-in_err-reserve_one-2.ensures.0

pub returns-in_err-reserve_one-2-clause-queued_room : goal.returns-in_err-reserve_one-2-clause-queued_room
returns-in_err-reserve_one-2-clause-queued_room g c = not_done c.from_residual-in_err-reserve_one-2.result _ c.from_residual-in_err-reserve_one-2.ensures.0

pub returns-in_err-reserve_one-clause-accepted : goal.returns-in_err-reserve_one-clause-accepted
returns-in_err-reserve_one-clause-accepted g c = c.in_err-reserve_one.ensures.items

pub returns-in_err-reserve_one-2-clause-accepted : goal.returns-in_err-reserve_one-2-clause-accepted
returns-in_err-reserve_one-2-clause-accepted g c = c.in_ok-reserve_one.ensures.items

pub returns-in_err-reserve_one-2-clause-indices : goal.returns-in_err-reserve_one-2-clause-indices
returns-in_err-reserve_one-2-clause-indices g c = c.in_err-reserve_one-2.ensures.items

pub returns-clause-accepted : goal.returns-clause-accepted
returns-clause-accepted g c = c.in_ok-reserve_one.ensures.items

pub returns-clause-indices : goal.returns-clause-indices
returns-clause-indices g c = c.in_ok-reserve_one-2.ensures.items

pub returns-clause-queued : goal.returns-clause-queued
returns-clause-queued g c = c.reserve_one-3.ensures.items

pub returns-clause-accepted_room : goal.returns-clause-accepted_room
returns-clause-accepted_room g c = done_so c.reserve_one-3.result _ c.in_ok-reserve_one.ensures.ok

pub returns-clause-answer_indices_room : goal.returns-clause-answer_indices_room
returns-clause-answer_indices_room g c = done_so c.reserve_one-3.result _ c.in_ok-reserve_one-2.ensures.ok
