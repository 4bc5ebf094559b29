use Rattle.std.proofs.Common.{◌<◌, ◌^◌, ◌∙◌, sym, ap, subst, arith, length}
use Rattle.std.specs.Prelude.{OnOk, OnErr}
use Rattle.raw_lists.specs.Blocks.{linked_of, IsSettled, IsGrown}
use Rattle.raw_lists.proofs.Blocks.{queue_grown, queue_begun}
use Rattle.block_queue.proofs.block_queue.BlockQueue.add_block.Goals as goal

pub invariant_of-self : goal.invariant_of-self
invariant_of-self g c =
    let q = c.self.inside in let r = c.add_block.result in let new = c.add_block.new.self.linked in
    let n = c.self.invariant.counted in let m = ap (λ v. length v.items) c.self.view_is in let few : q.count < 2 ^ 63 = omega arith in
    let grown = subst (λ o. OnOk r (IsGrown (linked_of o) new)) (sym c.in-Some.is) c.add_block.ensures.ok in
    let same = subst (λ o. OnErr r (IsSettled (linked_of o) new)) (sym c.in-Some.is) c.add_block.ensures.refused in
    (queue_grown r q.count (linked_of q.blocks) new c.self.invariant few grown same).0

pub returns-in-Some-clause-items : goal.returns-in-Some-clause-items
returns-in-Some-clause-items g c =
    let q = c.self.inside in let r = c.add_block.result in let new = c.add_block.new.self.linked in
    let n = c.self.invariant.counted in let m = ap (λ v. length v.items) c.self.view_is in let few : q.count < 2 ^ 63 = omega arith in
    let grown = subst (λ o. OnOk r (IsGrown (linked_of o) new)) (sym c.in-Some.is) c.add_block.ensures.ok in
    let same = subst (λ o. OnErr r (IsSettled (linked_of o) new)) (sym c.in-Some.is) c.add_block.ensures.refused in
    (queue_grown r q.count (linked_of q.blocks) new c.self.invariant few grown same).1 ∙ ap (λ v. v.items) c.self.view_is

pub returns-in-Some-clause-ok : goal.returns-in-Some-clause-ok
returns-in-Some-clause-ok g c =
    let q = c.self.inside in let r = c.add_block.result in let new = c.add_block.new.self.linked in
    let n = c.self.invariant.counted in let m = ap (λ v. length v.items) c.self.view_is in let few : q.count < 2 ^ 63 = omega arith in
    let grown = subst (λ o. OnOk r (IsGrown (linked_of o) new)) (sym c.in-Some.is) c.add_block.ensures.ok in
    let same = subst (λ o. OnErr r (IsSettled (linked_of o) new)) (sym c.in-Some.is) c.add_block.ensures.refused in
    (queue_grown r q.count (linked_of q.blocks) new c.self.invariant few grown same).2

pub invariant_of-self-in-None : goal.invariant_of-self-in-None
invariant_of-self-in-None g c =
    let q = c.self.inside in
    (queue_begun q.count (linked_of q.blocks) (linked_of c.replace.new.self) c.self.invariant (ap linked_of c.in-None.is) (ap linked_of c.replace.ensures.after ∙ c.in_ok-blocks-in-None.ensures)).0

pub returns-in-None-replace-clause-items : goal.returns-in-None-replace-clause-items
returns-in-None-replace-clause-items g c =
    let q = c.self.inside in
    (queue_begun q.count (linked_of q.blocks) (linked_of c.replace.new.self) c.self.invariant (ap linked_of c.in-None.is) (ap linked_of c.replace.ensures.after ∙ c.in_ok-blocks-in-None.ensures)).1
    ∙ ap (λ v. v.items) c.self.view_is

pub returns-in-None-replace-clause-ok : goal.returns-in-None-replace-clause-ok
returns-in-None-replace-clause-ok g c =
    let q = c.self.inside in
    (queue_begun q.count (linked_of q.blocks) (linked_of c.replace.new.self) c.self.invariant (ap linked_of c.in-None.is) (ap linked_of c.replace.ensures.after ∙ c.in_ok-blocks-in-None.ensures)).2
