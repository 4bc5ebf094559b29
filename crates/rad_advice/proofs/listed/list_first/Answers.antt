use Rattle.std.proofs.Common.{[], take, sym, subst, arith, Ok}
use Rattle.std.specs.List.{AllZip}
use Rattle.rad_advice.proofs.Lists.{all_of_front, end_of_front, zip_more}
use Rattle.rad_advice.proofs.listed.list_first.Goals as goal
use Rattle.rad_advice.proofs.listed.list_first.Given as given

pub returns-clause-first : goal.returns-clause-first
returns-clause-first g c =
    subst (λ items. AllZip (λ item told. given.F-post g c.args.tell item (Ok told)) items c.loop-item.first.items)
    (all_of_front c.args.most c.args.items.now c.min-count.result c.loop-item.item-index c.min-count.ensures c.loop-item-test.false)
    c.loop-item.invariant

pub returns-clause-more : goal.returns-clause-more
returns-clause-more g c = omega (arith, c.min-count.ensures)

pub overflow_sub-more : goal.overflow_sub-more
overflow_sub-more g c = omega arith

pub slice_bounds-item-items-end : goal.slice_bounds-item-items-end
slice_bounds-item-items-end g c = end_of_front c.args.most c.args.items.now c.min-count.result c.min-count.ensures

pub loop-item-init : goal.loop-item-init
loop-item-init g c = subst (AllZip (λ item told. given.F-post g c.args.tell item (Ok told)) []) (sym c.new-first.ensures.items) tt

pub loop-item-preserved : goal.loop-item-preserved
loop-item-preserved g c =
    subst (AllZip _ _) (sym c.in_ok-push.ensures.items)
    (zip_more _ (take c.min-count.result c.args.items.now) c.loop-item.first.items c.loop-item.item-index _ _ c.loop-item-test.true c.item-item.is c.loop-item.invariant c.in_ok-told.ensures)
