use Rattle.std.proofs.Common.{◌∙◌, length, ap, arith}
use Rattle.raw_lists.specs.Sliding.{items_in}
use Rattle.raw_lists.proofs.Fronts.{front_whole}
use Rattle.raw_lists.proofs.sliding_list.SlidingList.exchange.Goals as goal

pub returns-then-has_all : goal.returns-then-has_all
returns-then-has_all g c =
    let l = c.self.inside in let all = c.has_all.ensures c.if-has_all.true in
    let shown = ap length c.as_slice-count.ensures in let told = ap (λ q. length q.items) c.self.view_is in
    ap items_in c.take_next.ensures.row ∙ front_whole (items_in l.next) (items_in l.row) c.self.invariant (omega (arith, all, shown, told)) ∙ ap (λ q. q.items) c.self.view_is
