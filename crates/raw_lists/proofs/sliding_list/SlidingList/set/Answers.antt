use Rattle.std.proofs.Common.{◌<◌, ◌∙◌, length, set, sym, ap, subst}
use Rattle.raw_lists.specs.Sliding.{items_in, IsFront}
use Rattle.raw_lists.proofs.sliding_list.SlidingList.set.Goals as goal

pub set_in-requires : goal.set_in-requires
set_in-requires g c = subst (λ q. c.args.place < length q.items) (sym c.self.view_is) c.requires

pub invariant_of-self : goal.invariant_of-self
invariant_of-self g c =
    let l = c.self.inside in
    subst (λ items. IsFront (items_in c.follow_set.new.row) items) (sym c.set_in.ensures) (c.follow_set.ensures (items_in l.row) c.self.invariant)

pub returns : goal.returns
returns g c = c.set_in.ensures ∙ ap (λ q. set q.items c.args.place c.args.item) c.self.view_is
