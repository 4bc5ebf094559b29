use Rattle.std.proofs.Common.{◌∙◌, ap, drop}
use Rattle.std.specs.Prelude.{not}
use Rattle.raw_lists.specs.Sliding.{items_in, is_below, below}
use Rattle.raw_lists.proofs.Parted.{front_none, front_filtered}
use Rattle.raw_lists.proofs.sliding_list.SlidingList.take_below.Goals as goal

pub take_below-requires-2-clause-none_behind : goal.take_below-requires-2-clause-none_behind
take_below-requires-2-clause-none_behind g c =
    let l = c.self.inside in let number_of = g.T.Numbered.number_of in
    front_none (is_below number_of c.args.number) c.args.end (items_in l.next) (items_in l.row) c.self.invariant
    (ap (λ q. below number_of c.args.number (drop c.args.end q.items)) c.self.view_is ∙ c.requires)

pub invariant_of-self : goal.invariant_of-self
invariant_of-self g c =
    let l = c.self.inside in
    rw (c.take_below-2.ensures.row, c.take_below.ensures.row)
    (front_filtered (λ item. not (is_below g.T.Numbered.number_of c.args.number item)) (items_in l.next) (items_in l.row) c.self.invariant)
