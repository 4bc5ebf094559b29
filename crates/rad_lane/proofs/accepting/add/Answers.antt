use Rattle.std.proofs.Common.{◌≡◌, List, [], ◌∷◌, ◌++◌, ap, ◌∙◌}
use Rattle.rad_lane.specs.declared.stamp.Stamp.{Stamp}
use Rattle.rad_lane.proofs.NotDone.{stays_so}
use Rattle.rad_lane.proofs.accepting.add.Goals as goal

-- one more item, after room was made for it
one_more : {A : Type 0} (items roomy after : List A) (item : A) → after ≡ roomy ++ item ∷ [] → roomy ≡ items → after ≡ items ++ item ∷ []
one_more items roomy after item pushed same = pushed ∙ ap (λ xs. xs ++ item ∷ []) same

pub returns-clause-added : goal.returns-clause-added
returns-clause-added g c = record {
  added = c.in_ok-record.record;
  record_is = c.in_ok-record.ensures.record;
  is_record = c.stamp.ensures.is_record;
  room = c.in_ok-record.ensures.room;
  accepted_are = one_more _ _ _ _ c.push.ensures c.make_room.ensures.accepted ∙ ap (λ (s : Stamp). c.args.accepted.now.items ++ s ∷ []) c.stamp.ensures.value;
  queue_is = one_more _ _ _ _ c.push_back.ensures.items c.make_room.ensures.queued;
}

pub returns-in_err-make_room-clause-same_accepted : goal.returns-in_err-make_room-clause-same_accepted
returns-in_err-make_room-clause-same_accepted g c = stays_so c.from_residual.result _ c.make_room.ensures.accepted

pub returns-in_err-make_room-clause-same_indices : goal.returns-in_err-make_room-clause-same_indices
returns-in_err-make_room-clause-same_indices g c = stays_so c.from_residual.result _ c.make_room.ensures.indices

pub returns-in_err-make_room-clause-same_queued : goal.returns-in_err-make_room-clause-same_queued
returns-in_err-make_room-clause-same_queued g c = stays_so c.from_residual.result _ c.make_room.ensures.queued

pub returns-in_err-record-clause-same_accepted : goal.returns-in_err-record-clause-same_accepted
returns-in_err-record-clause-same_accepted g c = stays_so c.from_residual-in_err-record.result _ c.make_room.ensures.accepted

pub returns-in_err-record-clause-same_indices : goal.returns-in_err-record-clause-same_indices
returns-in_err-record-clause-same_indices g c = stays_so c.from_residual-in_err-record.result _ c.make_room.ensures.indices

pub returns-in_err-record-clause-same_queued : goal.returns-in_err-record-clause-same_queued
returns-in_err-record-clause-same_queued g c = stays_so c.from_residual-in_err-record.result _ c.make_room.ensures.queued
