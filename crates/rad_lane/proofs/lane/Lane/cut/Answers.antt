use Rattle.std.proofs.Common.{◌≡◌, ◌≤◌, ◌+◌, length, length-drop, take, refl, sym, ap, subst, ◌∙◌, arith}
use Rattle.std.specs.FinMap as map
use Rattle.rad_lane.specs.Book.{Book, next_number}
use Rattle.rad_lane.proofs.NotDone.{not_done, stays_so}
use Rattle.rad_lane.proofs.AnswerKeeping.{stands_unchanged, seen_unchanged}
use Rattle.rad_lane.proofs.ConsistentAfterCut.{below_counted, recent_fits, stands_left, left_seen, within_here, counted, cells_within, opening_fits}
use Rattle.rad_lane.specs.internal.Keys.{merged, AreBounded, IsBelow}
use Rattle.rad_lane.proofs.KeysByAge.{bounded_shed, merged-later}
use Rattle.rad_lane.proofs.lane.Lane.cut.Goals as goal

pub end_of-end-requires : goal.end_of-end-requires
end_of-end-requires g c =
    rw c.as_slice-2.ensures
    (below_counted c.self.inside.setup c.self.inside.opening c.self.inside.accepted.items (g.Q.Fifo.items c.self.inside.queued) c.self.inside.answered.items c.self.inside.served c.self.inside.slots c.self.inside.drain c.self.inside.watch c.self.inside.last c.args.self.now c.self.view_is c.args.now c.args.count c.requires.later c.requires.is_cut c.requires.within c.self.inside.slots.ports (merged c.self.inside.opening c.self.inside.recent c.self.inside.earlier.numbers) c.self.inside.indices.items c.self.inside.outstanding c.self.invariant.consistent)

pub take_below-requires : goal.take_below-requires
take_below-requires g c = rw c.as_slice-2.ensures at c.end_of-end.ensures.none_behind

pub shed-keys-requires : goal.shed-keys-requires
shed-keys-requires g c =
    subst (λ n. IsBelow n c.self.inside.recent) (sym c.next_number-after.ensures.value)
    (recent_fits c.self.inside.setup c.self.inside.opening c.self.inside.accepted.items (g.Q.Fifo.items c.self.inside.queued) c.self.inside.answered.items c.self.inside.served c.self.inside.slots c.self.inside.drain c.self.inside.watch c.self.inside.last c.args.self.now c.self.view_is c.args.now c.args.count c.requires.later c.requires.is_cut c.requires.within c.self.inside.slots.ports (merged c.self.inside.opening c.self.inside.recent c.self.inside.earlier.numbers) c.self.inside.indices.items c.self.inside.outstanding c.self.invariant.consistent c.self.inside.recent c.self.inside.earlier.numbers refl)

-- where memory is refused, nothing changes
pub invariant_of-self : goal.invariant_of-self
invariant_of-self g c = record {
  consistent =
      stands_unchanged c.self.inside.setup c.self.inside.opening c.self.inside.accepted.items (g.Q.Fifo.items c.self.inside.queued) c.self.inside.answered.items c.self.inside.served c.self.inside.slots c.self.inside.drain c.self.inside.watch c.self.inside.last c.args.self.now c.self.view_is c.self.inside.slots.ports (merged c.self.inside.opening c.self.inside.recent c.self.inside.earlier.numbers) c.self.inside.indices.items c.self.inside.outstanding c.self.invariant.consistent _ c.in_err-answered.ensures.err;
  bounded = c.self.invariant.bounded;
  none_before = c.self.invariant.none_before;
}

pub invariant_of-self-2 : goal.invariant_of-self-2
invariant_of-self-2 g c = record {
  consistent =
      let next = c.self.inside.opening + c.args.count in
      stands_left c.self.inside.setup c.self.inside.opening c.self.inside.accepted.items (g.Q.Fifo.items c.self.inside.queued) c.self.inside.answered.items c.self.inside.served c.self.inside.slots c.self.inside.drain c.self.inside.watch c.self.inside.last c.args.self.now c.self.view_is c.args.now c.args.count c.requires.later c.requires.is_cut c.requires.within c.self.inside.slots.ports (merged c.self.inside.opening c.self.inside.recent c.self.inside.earlier.numbers) c.self.inside.indices.items c.self.inside.outstanding c.self.invariant.consistent
      c.drop_front.new.self.items c.drop_front.ensures c.take_below.new.self.items c.in_ok-answered.ensures.ok c.drop_front-2.new.self.items c.drop_front-2.ensures
      (merged next c.shed-keys.new.recent c.shed-keys.new.earlier.numbers)
      (λ key. ap (λ m. map.get m key) (c.shed-keys.ensures.merged next (omega arith)) ∙ merged-later c.self.inside.opening next c.self.inside.recent c.self.inside.earlier.numbers (omega arith) key);
  bounded =
      let next = c.self.inside.opening + c.args.count in
      let items = c.self.inside.accepted.items in
      let before : c.next_number-after.result ≡ c.self.inside.opening + length items = c.next_number-after.ensures.value ∙ ap (λ (b : Book). next_number b) (sym c.self.view_is) in
      let within : c.args.count ≤ length items = omega (arith, c.requires.within, ap (λ (b : Book). length b.accepted) c.self.view_is) in
      let after : c.next_number-after.result ≡ next + length c.drop_front.new.self.items = omega (arith, before, within, ap length c.drop_front.ensures, length-drop c.args.count items) in
      subst (λ n. AreBounded next n c.shed-keys.new.recent c.shed-keys.new.earlier.end) after
      (bounded_shed next c.next_number-after.result c.self.inside.earlier.end _ c.self.inside.recent c.shed-keys.new.recent (omega (arith, before, within)) (omega (arith, before, c.self.invariant.bounded.until)) c.shed-keys.ensures.shed c.shed-keys.ensures.kept);
  none_before = c.self.invariant.none_before;
}

pub returns-clause-ok : goal.returns-clause-ok
returns-clause-ok g c =
    let stamps = c.in_ok-stamps.ensures.items ∙ ap (λ xs. take c.args.count xs) c.as_slice.ensures in
    left_seen c.self.inside.setup c.self.inside.opening c.self.inside.accepted.items (g.Q.Fifo.items c.self.inside.queued) c.self.inside.answered.items c.self.inside.served c.self.inside.slots c.self.inside.drain c.self.inside.watch c.self.inside.last c.args.self.now c.self.view_is c.args.now c.args.count c.requires.later c.requires.is_cut c.requires.within c.self.inside.slots.ports (merged c.self.inside.opening c.self.inside.recent c.self.inside.earlier.numbers) c.self.inside.indices.items c.self.inside.outstanding c.self.invariant.consistent
    c.drop_front.new.self.items c.drop_front.ensures c.take_below.new.self.items c.in_ok-answered.ensures.ok _ (c.from_vec.ensures ∙ stamps) _ (c.from_vec-2.ensures ∙ c.in_ok-answered.ensures.items)

pub overflow_add-next : goal.overflow_add-next
overflow_add-next g c =
    opening_fits c.self.inside.setup c.self.inside.opening c.self.inside.accepted.items (g.Q.Fifo.items c.self.inside.queued) c.self.inside.answered.items c.self.inside.served c.self.inside.slots c.self.inside.drain c.self.inside.watch c.self.inside.last c.args.self.now c.self.view_is c.args.now c.args.count c.requires.later c.requires.is_cut c.requires.within c.self.inside.slots.ports (merged c.self.inside.opening c.self.inside.recent c.self.inside.earlier.numbers) c.self.inside.indices.items c.self.inside.outstanding c.self.invariant.consistent

pub slice_bounds-from_slice-end : goal.slice_bounds-from_slice-end
slice_bounds-from_slice-end g c =
    rw c.as_slice.ensures
    (sym (counted c.self.inside.setup c.self.inside.opening c.self.inside.accepted.items (g.Q.Fifo.items c.self.inside.queued) c.self.inside.answered.items c.self.inside.served c.self.inside.slots c.self.inside.drain c.self.inside.watch c.self.inside.last c.args.self.now c.self.view_is c.args.now c.args.count c.requires.later c.requires.is_cut c.requires.within c.self.inside.slots.ports (merged c.self.inside.opening c.self.inside.recent c.self.inside.earlier.numbers) c.self.inside.indices.items c.self.inside.outstanding c.self.invariant.consistent))

pub returns-in_err-stamps-clause-ok : goal.returns-in_err-stamps-clause-ok
returns-in_err-stamps-clause-ok g c = not_done c.from_residual.result _ c.from_residual.ensures.0

pub returns-in_err-stamps-clause-err : goal.returns-in_err-stamps-clause-err
returns-in_err-stamps-clause-err g c = stays_so c.from_residual.result _ refl

pub returns-in_err-answered-clause-ok : goal.returns-in_err-answered-clause-ok
returns-in_err-answered-clause-ok g c = not_done c.from_residual-in_err-answered.result _ c.from_residual-in_err-answered.ensures.0

pub returns-in_err-answered-clause-err : goal.returns-in_err-answered-clause-err
returns-in_err-answered-clause-err g c =
    stays_so c.from_residual-in_err-answered.result _
    (seen_unchanged c.self.inside.setup c.self.inside.opening c.self.inside.accepted.items (g.Q.Fifo.items c.self.inside.queued) c.self.inside.answered.items c.self.inside.served c.self.inside.slots c.self.inside.drain c.self.inside.watch c.self.inside.last c.args.self.now c.self.view_is c.self.inside.slots.ports (merged c.self.inside.opening c.self.inside.recent c.self.inside.earlier.numbers) c.self.inside.indices.items c.self.inside.outstanding c.self.invariant.consistent _ c.in_err-answered.ensures.err)

pub drop_front-requires : goal.drop_front-requires
drop_front-requires g c =
    within_here c.self.inside.setup c.self.inside.opening c.self.inside.accepted.items (g.Q.Fifo.items c.self.inside.queued) c.self.inside.answered.items c.self.inside.served c.self.inside.slots c.self.inside.drain c.self.inside.watch c.self.inside.last c.args.self.now c.self.view_is c.args.now c.args.count c.requires.later c.requires.is_cut c.requires.within c.self.inside.slots.ports (merged c.self.inside.opening c.self.inside.recent c.self.inside.earlier.numbers) c.self.inside.indices.items c.self.inside.outstanding c.self.invariant.consistent

pub drop_front-requires-2 : goal.drop_front-requires-2
drop_front-requires-2 g c =
    cells_within c.self.inside.setup c.self.inside.opening c.self.inside.accepted.items (g.Q.Fifo.items c.self.inside.queued) c.self.inside.answered.items c.self.inside.served c.self.inside.slots c.self.inside.drain c.self.inside.watch c.self.inside.last c.args.self.now c.self.view_is c.args.now c.args.count c.requires.later c.requires.is_cut c.requires.within c.self.inside.slots.ports (merged c.self.inside.opening c.self.inside.recent c.self.inside.earlier.numbers) c.self.inside.indices.items c.self.inside.outstanding c.self.invariant.consistent
