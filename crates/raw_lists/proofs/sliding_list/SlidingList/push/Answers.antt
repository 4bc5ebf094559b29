use Rattle.std.proofs.Common.{◌≤◌, ◌++◌, [], ◌∷◌, ◌∙◌, sym, ap, subst}
use Rattle.raw_lists.specs.Sliding.{items_in, IsFront}
use Rattle.raw_lists.proofs.Fronts.{front_pushed}
use Rattle.raw_lists.proofs.sliding_list.SlidingList.push.Goals as goal

pub push_to-requires : goal.push_to-requires
push_to-requires g c = subst (λ q. 1 ≤ q.room) (sym c.self.view_is) c.requires

pub invariant_of-self : goal.invariant_of-self
invariant_of-self g c =
    let l = c.self.inside in
    subst (λ items. IsFront (items_in l.next) items) (sym c.push_to.ensures) (front_pushed (items_in l.next) (items_in l.row) c.args.item c.self.invariant)

pub returns : goal.returns
returns g c = c.push_to.ensures ∙ ap (λ q. q.items ++ c.args.item ∷ []) c.self.view_is
