use Rattle.std.proofs.Common.{List, [], ◌∷◌, ◌++◌, Some, sym, ap, refl, subst, ◌∙◌}
use Rattle.rad_tables.specs.Pairs.{Table}
use Rattle.rad_lane.specs.declared.entry.Entry.{Entry}
use Rattle.rad_lane.specs.Outstanding.{AnswerKept}
use Rattle.rad_lane.proofs.AnswerKeeping.{stands_unchanged, seen_unchanged, served_fits, one_outstanding, since_the_opening, place_within, kept_seen, stands_kept}
use Rattle.rad_lane.specs.internal.Keys.{merged}
use Rattle.rad_lane.specs.internal.NextDue.{NoneBefore}
use Rattle.rad_lane.proofs.NextDueFound.{before_freed}
use Rattle.rad_lane.proofs.lane.Lane.keep_answer.Goals as goal

-- where memory is refused, nothing changes
pub invariant_of-self : goal.invariant_of-self
invariant_of-self g c = record {
  consistent =
      stands_unchanged c.self.inside.setup c.self.inside.opening c.self.inside.accepted.items (g.Q.Fifo.items c.self.inside.queued) c.self.inside.answered.items c.self.inside.served c.self.inside.slots c.self.inside.drain c.self.inside.watch c.self.inside.last c.args.self.now c.self.view_is c.self.inside.slots.ports (merged c.self.inside.opening c.self.inside.recent c.self.inside.earlier.numbers) c.self.inside.indices.items c.self.inside.outstanding c.self.invariant.consistent _ c.reserve_one.ensures.items;
  bounded = c.self.invariant.bounded;
  none_before = c.self.invariant.none_before;
}

pub returns-in_default-clause-err : goal.returns-in_default-clause-err
returns-in_default-clause-err g c = (refl, seen_unchanged c.self.inside.setup c.self.inside.opening c.self.inside.accepted.items (g.Q.Fifo.items c.self.inside.queued) c.self.inside.answered.items c.self.inside.served c.self.inside.slots c.self.inside.drain c.self.inside.watch c.self.inside.last c.args.self.now c.self.view_is c.self.inside.slots.ports (merged c.self.inside.opening c.self.inside.recent c.self.inside.earlier.numbers) c.self.inside.indices.items c.self.inside.outstanding c.self.invariant.consistent _ c.reserve_one.ensures.items)

pub overflow_sub-place : goal.overflow_sub-place
overflow_sub-place g c = since_the_opening c.self.inside.setup c.self.inside.opening c.self.inside.accepted.items (g.Q.Fifo.items c.self.inside.queued) c.self.inside.answered.items c.self.inside.served c.self.inside.slots c.self.inside.drain c.self.inside.watch c.self.inside.last c.args.self.now c.self.view_is c.self.inside.slots.ports (merged c.self.inside.opening c.self.inside.recent c.self.inside.earlier.numbers) c.self.inside.indices.items c.self.inside.outstanding c.self.invariant.consistent c.args.now c.args.slot c.args.answer c.requires.answers c.stamp.result c.stamp.ensures.value

pub set-requires : goal.set-requires
set-requires g c = place_within c.self.inside.setup c.self.inside.opening c.self.inside.accepted.items (g.Q.Fifo.items c.self.inside.queued) c.self.inside.answered.items c.self.inside.served c.self.inside.slots c.self.inside.drain c.self.inside.watch c.self.inside.last c.args.self.now c.self.view_is c.self.inside.slots.ports (merged c.self.inside.opening c.self.inside.recent c.self.inside.earlier.numbers) c.self.inside.indices.items c.self.inside.outstanding c.self.invariant.consistent c.args.now c.args.slot c.args.answer c.requires.answers c.stamp.result c.stamp.ensures.value

pub push-requires : goal.push-requires
push-requires g c = c.in-Ok.ensures.ok

pub overflow_add-self : goal.overflow_add-self
overflow_add-self g c = served_fits c.self.inside.setup c.self.inside.opening c.self.inside.accepted.items (g.Q.Fifo.items c.self.inside.queued) c.self.inside.answered.items c.self.inside.served c.self.inside.slots c.self.inside.drain c.self.inside.watch c.self.inside.last c.args.self.now c.self.view_is c.self.inside.slots.ports (merged c.self.inside.opening c.self.inside.recent c.self.inside.earlier.numbers) c.self.inside.indices.items c.self.inside.outstanding c.self.invariant.consistent

pub overflow_sub-self : goal.overflow_sub-self
overflow_sub-self g c = one_outstanding c.self.inside.setup c.self.inside.opening c.self.inside.accepted.items (g.Q.Fifo.items c.self.inside.queued) c.self.inside.answered.items c.self.inside.served c.self.inside.slots c.self.inside.drain c.self.inside.watch c.self.inside.last c.args.self.now c.self.view_is c.self.inside.slots.ports (merged c.self.inside.opening c.self.inside.recent c.self.inside.earlier.numbers) c.self.inside.indices.items c.self.inside.outstanding c.self.invariant.consistent c.args.now c.args.slot c.args.answer c.requires.answers

pub invariant_of-self-2 : goal.invariant_of-self-2
invariant_of-self-2 g c = record {
  consistent =
      stands_kept c.self.inside.setup c.self.inside.opening c.self.inside.accepted.items (g.Q.Fifo.items c.self.inside.queued) c.self.inside.answered.items c.self.inside.served c.self.inside.slots c.self.inside.drain c.self.inside.watch c.self.inside.last c.args.self.now c.self.view_is c.self.inside.slots.ports (merged c.self.inside.opening c.self.inside.recent c.self.inside.earlier.numbers) c.self.inside.indices.items c.self.inside.outstanding c.self.invariant.consistent c.args.now c.args.slot c.args.answer c.requires.answers c.stamp.result c.stamp.ensures.value c.requires.later c.push.new.self.items (c.push.ensures ∙ ap (λ (xs : List AnswerKept). xs ++ c.args.answer ∷ []) c.reserve_one.ensures.items) c.free.new.slots c.free.ensures c.set.new.self.items c.set.ensures refl;
  bounded = c.self.invariant.bounded;
  none_before =
      subst (λ (t : Table Entry). NoneBefore t.entries c.self.inside.none_before) (sym c.free.ensures) (before_freed _ (Some c.args.slot) _ c.self.invariant.none_before);
}

pub returns-clause-ok : goal.returns-clause-ok
returns-clause-ok g c = kept_seen c.self.inside.setup c.self.inside.opening c.self.inside.accepted.items (g.Q.Fifo.items c.self.inside.queued) c.self.inside.answered.items c.self.inside.served c.self.inside.slots c.self.inside.drain c.self.inside.watch c.self.inside.last c.args.self.now c.self.view_is c.self.inside.slots.ports (merged c.self.inside.opening c.self.inside.recent c.self.inside.earlier.numbers) c.self.inside.indices.items c.self.inside.outstanding c.self.invariant.consistent c.args.now c.args.slot c.args.answer c.requires.answers c.stamp.result c.stamp.ensures.value c.requires.later c.push.new.self.items (c.push.ensures ∙ ap (λ (xs : List AnswerKept). xs ++ c.args.answer ∷ []) c.reserve_one.ensures.items) c.free.new.slots c.free.ensures
