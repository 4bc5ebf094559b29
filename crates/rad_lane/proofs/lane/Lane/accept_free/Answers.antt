use Rattle.std.proofs.Common.{◌≤◌, ◌∙◌, IfSome, ap, sym, subst, refl, arith}
use Rattle.std.specs.FinMap as map
use Rattle.rad_tables.proofs.KeyLemmas.{as_before}
use Rattle.rad_lane.specs.Book.{Book, next_number}
use Rattle.rad_lane.specs.Accepts.{request_key}
use Rattle.rad_lane.proofs.KeysByAge.{bounded_more, bounded_still, get-merged, merged-insert}
use Rattle.rad_lane.proofs.LawfulAfterAccept.{stands_taken, seen_taken, stands_still, seen_still}
use Rattle.rad_lane.proofs.RepeatFound.{repeats_told, repeat_accepted, had_inserted, since_opening}
use Rattle.rad_lane.proofs.NewRefused.{leaves_room}
use Rattle.rad_lane.specs.internal.Keys.{number_since, option_or, merged}
use Rattle.rad_lane.proofs.lane.Lane.accept_free.Goals as goal

pub restore-requires : goal.restore-requires
restore-requires g c = had_inserted c.self.inside.recent c.replace.new.self c.key_of-key.result c.next_number-next.result c.in-Ok.ensures.ok

pub invariant_of-self-in-Some : goal.invariant_of-self-in-Some
invariant_of-self-in-Some g c = record {
  consistent =
      stands_still c.self.inside.setup c.self.inside.opening c.self.inside.accepted.items (g.Q.Fifo.items c.self.inside.queued) c.self.inside.answered.items c.self.inside.served c.self.inside.slots c.self.inside.drain c.self.inside.watch c.self.inside.last _ refl _ refl c.self.inside.slots.ports (merged c.self.inside.opening c.self.inside.recent c.self.inside.earlier.numbers) c.self.inside.indices.items c.self.inside.outstanding c.self.invariant.consistent (merged c.self.inside.opening c.restore.new.self c.self.inside.earlier.numbers) (ap (λ m. merged c.self.inside.opening m c.self.inside.earlier.numbers) (as_before _ _ _ _ c.in-Ok.ensures.last _ _ c.in-Ok.ensures.ok c.restore.ensures)) _ refl;
  bounded =
      bounded_still c.self.inside.opening c.self.inside.earlier.end c.self.inside.recent c.restore.new.self c.self.inside.accepted.items _ (as_before _ _ _ _ c.in-Ok.ensures.last _ _ c.in-Ok.ensures.ok c.restore.ensures) refl c.self.invariant.bounded;
  none_before = c.self.invariant.none_before;
}

pub returns-in-Some : goal.returns-in-Some
returns-in-Some g c =
    repeat_accepted c.args.self.now c.args.request.now _ _ c.moment_of-now.ensures.value _
    (repeats_told _ _ c.self.view_is (merged c.self.inside.opening c.self.inside.recent c.self.inside.earlier.numbers) c.self.invariant.consistent.last_numbers (request_key c.args.request.now) c.key_of-key.result c.key_of-key.ensures c.moment_of-now.result c.moment_of-now.result refl _ _ c.last_number-last.result _ (c.last_number-last.ensures ∙ ap (λ o. number_since c.self.inside.opening (option_or o (map.get c.self.inside.earlier.numbers c.key_of-key.result))) c.in-Ok.ensures.last ∙ sym (get-merged c.self.inside.opening c.self.inside.recent c.self.inside.earlier.numbers c.key_of-key.result)) c.since-seen.ensures.span c.since-seen.ensures.answered c.repeat_of.ensures)
    _ _ _ c.in-Some.ensures
    (c.set_last.ensures ∙ ap (λ (b : Book). let later : Book = record b { last = c.moment_of-now.result } in later) c.self.view_is)

pub restore-requires-in_default-add : goal.restore-requires-in_default-add
restore-requires-in_default-add g c = had_inserted c.self.inside.recent c.replace.new.self c.key_of-key.result c.next_number-next.result c.in-Ok.ensures.ok

pub invariant_of-self-in_default-add : goal.invariant_of-self-in_default-add
invariant_of-self-in_default-add g c = record {
  consistent =
      stands_still c.self.inside.setup c.self.inside.opening c.self.inside.accepted.items (g.Q.Fifo.items c.self.inside.queued) c.self.inside.answered.items c.self.inside.served c.self.inside.slots c.self.inside.drain c.self.inside.watch c.self.inside.last _ c.in_default-add.ensures.same_accepted _ c.in_default-add.ensures.same_queued c.self.inside.slots.ports (merged c.self.inside.opening c.self.inside.recent c.self.inside.earlier.numbers) c.self.inside.indices.items c.self.inside.outstanding c.self.invariant.consistent (merged c.self.inside.opening c.restore-in_default-add.new.self c.self.inside.earlier.numbers) (ap (λ m. merged c.self.inside.opening m c.self.inside.earlier.numbers) (as_before _ _ _ _ c.in-Ok.ensures.last _ _ c.in-Ok.ensures.ok c.restore-in_default-add.ensures)) _ c.in_default-add.ensures.same_indices;
  bounded =
      bounded_still c.self.inside.opening c.self.inside.earlier.end c.self.inside.recent c.restore-in_default-add.new.self c.self.inside.accepted.items _ (as_before _ _ _ _ c.in-Ok.ensures.last _ _ c.in-Ok.ensures.ok c.restore-in_default-add.ensures) c.in_default-add.ensures.same_accepted c.self.invariant.bounded;
  none_before = c.self.invariant.none_before;
}

pub returns-in_default-add : goal.returns-in_default-add
returns-in_default-add g c = (
  repeats_told _ _ c.self.view_is (merged c.self.inside.opening c.self.inside.recent c.self.inside.earlier.numbers) c.self.invariant.consistent.last_numbers (request_key c.args.request.now) c.key_of-key.result c.key_of-key.ensures _ c.moment_of-now.result c.moment_of-now.ensures.value _ _ c.last_number-last.result _ (c.last_number-last.ensures ∙ ap (λ o. number_since c.self.inside.opening (option_or o (map.get c.self.inside.earlier.numbers c.key_of-key.result))) c.in-Ok.ensures.last ∙ sym (get-merged c.self.inside.opening c.self.inside.recent c.self.inside.earlier.numbers c.key_of-key.result)) c.since-seen.ensures.span c.since-seen.ensures.answered c.repeat_of.ensures
      ∙ c.in_default-taken_as.ensures.0,
  c.requires.free,
  seen_still c.self.inside.setup c.self.inside.opening c.self.inside.accepted.items (g.Q.Fifo.items c.self.inside.queued) c.self.inside.answered.items c.self.inside.served c.self.inside.slots c.self.inside.drain c.self.inside.watch c.self.inside.last _ c.in_default-add.ensures.same_accepted _ c.in_default-add.ensures.same_queued _ c.self.view_is,
  c.in_default-taken_as.ensures.1,
)

pub invariant_of-self-2 : goal.invariant_of-self-2
invariant_of-self-2 g c = record {
  consistent =
      let next_is = c.next_number-next.ensures.value ∙ ap (λ (b : Book). next_number b) (sym c.self.view_is) in
      let next_since : c.self.inside.opening ≤ c.next_number-next.result = omega (arith, next_is) in
      let new =
      repeats_told _ _ c.self.view_is (merged c.self.inside.opening c.self.inside.recent c.self.inside.earlier.numbers) c.self.invariant.consistent.last_numbers (request_key c.args.request.now) c.key_of-key.result c.key_of-key.ensures c.moment_of-now.result c.moment_of-now.result refl _ _ c.last_number-last.result _ (c.last_number-last.ensures ∙ ap (λ o. number_since c.self.inside.opening (option_or o (map.get c.self.inside.earlier.numbers c.key_of-key.result))) c.in-Ok.ensures.last ∙ sym (get-merged c.self.inside.opening c.self.inside.recent c.self.inside.earlier.numbers c.key_of-key.result)) c.since-seen.ensures.span c.since-seen.ensures.answered c.repeat_of.ensures
      ∙ c.in_default-taken_as.ensures.0
      in
      stands_taken c.self.inside.setup c.self.inside.opening c.self.inside.accepted.items (g.Q.Fifo.items c.self.inside.queued) c.self.inside.answered.items c.self.inside.served c.self.inside.slots c.self.inside.drain c.self.inside.watch c.self.inside.last c.args.self.now c.self.view_is c.self.inside.slots.ports (merged c.self.inside.opening c.self.inside.recent c.self.inside.earlier.numbers) c.self.inside.indices.items c.self.inside.outstanding c.args.request.now c.moment_of-now.result c.next_number-next.result _
      _ c.in-Ok-add.ensures.added.accepted_are _ c.in-Ok-add.ensures.added.queue_is c.key_of-key.result c.key_of-key.ensures _ (ap (λ m. merged c.self.inside.opening m c.self.inside.earlier.numbers) c.in-Ok.ensures.ok ∙ merged-insert c.self.inside.opening c.self.inside.recent c.self.inside.earlier.numbers c.key_of-key.result c.next_number-next.result next_since) _ c.in-Ok-add.ensures.indices
      c.self.invariant.consistent c.moment_of-now.ensures.later c.requires.taken new c.requires.free c.next_number-next.ensures.value c.in-Ok-add.ensures.added.record_is c.in-Ok-add.ensures.added.is_record c.in-Ok-add.ensures.added.room;
  bounded =
      let next_is = c.next_number-next.ensures.value ∙ ap (λ (b : Book). next_number b) (sym c.self.view_is) in
      let next_since : c.self.inside.opening ≤ c.next_number-next.result = omega (arith, next_is) in
      bounded_more c.self.inside.opening c.self.inside.earlier.end c.next_number-next.result c.self.inside.recent c.replace.new.self c.key_of-key.result c.self.inside.accepted.items _ _ next_since c.in-Ok.ensures.ok c.in-Ok-add.ensures.added.accepted_are c.self.invariant.bounded;
  none_before = c.self.invariant.none_before;
}

pub returns : goal.returns
returns g c = (
  repeats_told _ _ c.self.view_is (merged c.self.inside.opening c.self.inside.recent c.self.inside.earlier.numbers) c.self.invariant.consistent.last_numbers (request_key c.args.request.now) c.key_of-key.result c.key_of-key.ensures _ c.moment_of-now.result c.moment_of-now.ensures.value _ _ c.last_number-last.result _ (c.last_number-last.ensures ∙ ap (λ o. number_since c.self.inside.opening (option_or o (map.get c.self.inside.earlier.numbers c.key_of-key.result))) c.in-Ok.ensures.last ∙ sym (get-merged c.self.inside.opening c.self.inside.recent c.self.inside.earlier.numbers c.key_of-key.result)) c.since-seen.ensures.span c.since-seen.ensures.answered c.repeat_of.ensures
      ∙ c.in_default-taken_as.ensures.0,
  c.requires.free,
  c.next_number-next.ensures.value,
  seen_taken c.self.inside.setup c.self.inside.opening c.self.inside.accepted.items (g.Q.Fifo.items c.self.inside.queued) c.self.inside.answered.items c.self.inside.served c.self.inside.slots c.self.inside.drain c.self.inside.watch c.self.inside.last c.args.self.now c.self.view_is c.self.inside.slots.ports (merged c.self.inside.opening c.self.inside.recent c.self.inside.earlier.numbers) c.self.inside.indices.items c.self.inside.outstanding c.args.request.now c.moment_of-now.result c.next_number-next.result _
      _ c.in-Ok-add.ensures.added.accepted_are _ c.in-Ok-add.ensures.added.queue_is _ c.moment_of-now.ensures.value c.self.invariant.consistent c.next_number-next.ensures.value c.in-Ok-add.ensures.added.record_is,
  c.in_default-taken_as.ensures.1,
)

pub since-seen-requires-clause-told : goal.since-seen-requires-clause-told
since-seen-requires-clause-told g c = c.self.invariant.consistent.indices

pub since-seen-requires-clause-rising : goal.since-seen-requires-clause-rising
since-seen-requires-clause-rising g c = c.self.invariant.consistent.lawful.serials_rise

pub invariant_of-self : goal.invariant_of-self
invariant_of-self g c = record {
  consistent =
      stands_still c.self.inside.setup c.self.inside.opening c.self.inside.accepted.items (g.Q.Fifo.items c.self.inside.queued) c.self.inside.answered.items c.self.inside.served c.self.inside.slots c.self.inside.drain c.self.inside.watch c.self.inside.last _ refl _ refl c.self.inside.slots.ports (merged c.self.inside.opening c.self.inside.recent c.self.inside.earlier.numbers) c.self.inside.indices.items c.self.inside.outstanding c.self.invariant.consistent (merged c.self.inside.opening c.replace.new.self c.self.inside.earlier.numbers) (ap (λ m. merged c.self.inside.opening m c.self.inside.earlier.numbers) c.in_default.ensures.err) _ refl;
  bounded =
      bounded_still c.self.inside.opening c.self.inside.earlier.end c.self.inside.recent c.replace.new.self c.self.inside.accepted.items _ c.in_default.ensures.err refl c.self.invariant.bounded;
  none_before = c.self.invariant.none_before;
}

pub repeat_of-requires : goal.repeat_of-requires
repeat_of-requires g c =
    subst (λ opening. IfSome c.last_number-last.result (λ number. opening ≤ number)) (sym c.since-seen.ensures.opening)
    (since_opening (merged c.self.inside.opening c.self.inside.recent c.self.inside.earlier.numbers) _ c.self.invariant.consistent.since_opening _ _ (c.last_number-last.ensures ∙ ap (λ o. number_since c.self.inside.opening (option_or o (map.get c.self.inside.earlier.numbers c.key_of-key.result))) c.in-Ok.ensures.last ∙ sym (get-merged c.self.inside.opening c.self.inside.recent c.self.inside.earlier.numbers c.key_of-key.result)))

pub set_last-requires : goal.set_last-requires
set_last-requires g c = subst (λ (b : Book). b.last ≤ c.moment_of-now.result) (sym c.self.view_is) c.moment_of-now.ensures.later

pub add-requires : goal.add-requires
add-requires g c = leaves_room c.args.request.now c.requires.free.3
