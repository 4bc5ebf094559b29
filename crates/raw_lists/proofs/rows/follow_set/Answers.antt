use Rattle.std.proofs.Common.{◌∙◌, length, set, sym, ap, subst, arith}
use Rattle.raw_lists.specs.Sliding.{items_in, IsFront}
use Rattle.raw_lists.proofs.Fronts.{front_set, front_set_behind}
use Rattle.raw_lists.proofs.rows.follow_set.Goals as goal

pub returns-then-place-slice_of : goal.returns-then-place-slice_of
returns-then-place-slice_of g c = λ items e.
    let long = ap length c.slice_of.ensures in
    front_set_behind (items_in c.args.row.now) items c.args.place c.args.item.now (omega (arith, long, c.if-place-slice_of.true)) e

pub set_in-requires : goal.set_in-requires
set_in-requires g c = let long = ap length c.slice_of.ensures in omega (arith, long, c.if-place-slice_of.false)

pub returns-in-Ok : goal.returns-in-Ok
returns-in-Ok g c = λ items e.
    let front = items_in c.args.row.now in let place = c.args.place in let item = c.args.item.now in
    let new = c.set_in.ensures ∙ ap (λ x. set front place x) c.in-Ok.ensures in
    subst (λ front. IsFront front (set items place item)) (sym new) (front_set front items place item e)
