use Rattle.std.proofs.Common.{sym, subst}
use Rattle.raw_lists.specs.Blocks.{IsChain, IsSettled, IsJoined}
use Rattle.raw_lists.specs.Chain.{joined}
use Rattle.raw_lists.proofs.Ends.{linked_both, linked_settled}
use Rattle.raw_lists.proofs.held_blocks.HeldBlocks.append.Goals as goal

pub with_spare-requires : goal.with_spare-requires
with_spare-requires g c =
    let bs = c.linked.inside.linked in let cs = c.next.inside.linked in let front = c.without_empty_last-front in let all = c.prepend in
    let h = subst (λ v. IsChain v.linked) (sym c.next.view_is) c.with_emptied_detached-2.ensures.chained in
    (linked_both bs cs (joined front.result.0) all.result front.ensures.shape front.ensures.items h all.ensures.some all.ensures.blocks).chained

pub returns : goal.returns
returns g c =
    let bs = c.linked.inside.linked in let cs = c.next.inside.linked in let front = c.without_empty_last-front in let all = c.prepend in
    let first = c.args.self.linked in let second = c.args.others.linked in
    let h = subst (λ v. IsChain v.linked) (sym c.next.view_is) c.with_emptied_detached-2.ensures.chained in
    let same = subst (λ v. IsSettled first v.linked) (sym c.linked.view_is) c.with_emptied_detached.ensures in
    let also = subst (λ v. IsSettled second v.linked) (sym c.next.view_is) c.with_emptied_detached-2.ensures in
    subst (IsJoined first second) (sym c.with_spare.ensures)
    (linked_settled first second bs cs all.result same also (linked_both bs cs (joined front.result.0) all.result front.ensures.shape front.ensures.items h all.ensures.some all.ensures.blocks))
