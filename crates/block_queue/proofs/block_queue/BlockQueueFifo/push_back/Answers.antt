use Rattle.std.proofs.Common.{◌≤◌, ◌<◌, ◌++◌, [], ◌∷◌, ◌∙◌, sym, ap, subst, arith, length}
use Rattle.raw_lists.specs.Blocks.{linked_of, pushed}
use Rattle.raw_lists.proofs.Blocks.{some_with_room, queue_pushed}
use Rattle.block_queue.proofs.block_queue.BlockQueueFifo.push_back.Goals as goal

pub unreachable-requires : goal.unreachable-requires
unreachable-requires g c =
    let q = c.self.inside in let room = subst (λ v. 1 ≤ v.room) (sym c.self.view_is) c.requires in
    let some = subst (λ o. 0 < length (linked_of o)) c.in-None.is (some_with_room (linked_of q.blocks) room) in omega arith

pub invariant_of-self : goal.invariant_of-self
invariant_of-self g c =
    let q = c.self.inside in let room = subst (λ v. 1 ≤ v.room) (sym c.self.view_is) c.requires in
    let e = c.push.ensures ∙ ap (λ o. pushed (linked_of o) c.args.item) (sym c.in-Some.is) in
    (queue_pushed q.count (linked_of q.blocks) _ c.args.item c.self.invariant room e).0

pub returns-clause-items : goal.returns-clause-items
returns-clause-items g c =
    let q = c.self.inside in let room = subst (λ v. 1 ≤ v.room) (sym c.self.view_is) c.requires in
    let e = c.push.ensures ∙ ap (λ o. pushed (linked_of o) c.args.item) (sym c.in-Some.is) in
    (queue_pushed q.count (linked_of q.blocks) _ c.args.item c.self.invariant room e).1 ∙ ap (λ v. v.items ++ c.args.item ∷ []) c.self.view_is

pub returns-clause-room : goal.returns-clause-room
returns-clause-room g c =
    let q = c.self.inside in let room = subst (λ v. 1 ≤ v.room) (sym c.self.view_is) c.requires in
    let e = c.push.ensures ∙ ap (λ o. pushed (linked_of o) c.args.item) (sym c.in-Some.is) in
    let left = (queue_pushed q.count (linked_of q.blocks) _ c.args.item c.self.invariant room e).2 in let same = ap (λ v. v.room) c.self.view_is in omega arith
