use Rattle.std.proofs.Common.{◌∙◌, drop, ap}
use Rattle.raw_lists.specs.Sliding.{items_in}
use Rattle.raw_lists.proofs.Fronts.{front_dropped}
use Rattle.raw_lists.proofs.sliding_list.SlidingList.drop_front.Goals as goal

pub invariant_of-self : goal.invariant_of-self
invariant_of-self g c =
    let l = c.self.inside in
    rw (c.drop_of_each.ensures.next, c.drop_of_each.ensures.row) (front_dropped c.args.count (items_in l.next) (items_in l.row) c.self.invariant)

pub returns : goal.returns
returns g c = c.drop_of_each.ensures.row ∙ ap (λ q. drop c.args.count q.items) c.self.view_is
