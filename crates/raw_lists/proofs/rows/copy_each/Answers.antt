use Rattle.std.proofs.Common.{◌++◌, [], ◌∷◌, ◌∙◌, slice_get, sym, ap, subst}
use Rattle.raw_lists.specs.Sliding.{IsFront}
use Rattle.raw_lists.proofs.Fronts.{front_more}
use Rattle.raw_lists.proofs.rows.copy_each.Goals as goal

pub loop-preserved : goal.loop-preserved
loop-preserved g c =
    let front = c.loop.row.items in let items = c.args.items.now in
    let there = ap (λ n. slice_get items n) (sym c.len.ensures) ∙ sym c.in-Some.ensures in
    let more = front_more front items c.in-Some.item.now c.loop.invariant there in
    subst (λ q. IsFront q.items items) (sym c.push.ensures) (subst (λ x. IsFront (front ++ x ∷ []) items) (sym c.in-Ok.ensures) more)
