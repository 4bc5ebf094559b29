use Rattle.std.proofs.Common.{◌<◌, ◌∙◌, length, sym, ap, subst, arith}
use Rattle.raw_lists.proofs.RowPlaces.{first_filled, row_popped}
use Rattle.raw_lists.proofs.row.Row.pop.Goals as goal

pub read-requires : goal.read-requires
read-requires g c =
    let r = c.self.inside in let some = subst (λ q. 0 < length q.items) (sym c.self.view_is) c.requires in
    first_filled r.places r.start r.count r.region.places c.self.invariant some

pub invariant_of-self : goal.invariant_of-self
invariant_of-self g c =
    let r = c.self.inside in let some = subst (λ q. 0 < length q.items) (sym c.self.view_is) c.requires in
    (row_popped r.places r.start r.count r.region.places c.self.invariant c.read.result c.read.new.self.places some c.read.ensures.value c.read.ensures.places.0).0

pub returns-clause-items : goal.returns-clause-items
returns-clause-items g c =
    let r = c.self.inside in let some = subst (λ q. 0 < length q.items) (sym c.self.view_is) c.requires in
    sym (ap (λ q. q.items) c.self.view_is)
    ∙ (row_popped r.places r.start r.count r.region.places c.self.invariant c.read.result c.read.new.self.places some c.read.ensures.value c.read.ensures.places.0).1

pub returns-clause-room : goal.returns-clause-room
returns-clause-room g c =
    let r = c.self.inside in let some = subst (λ q. 0 < length q.items) (sym c.self.view_is) c.requires in
    let counted = c.self.invariant.run.counted in
    omega (arith, some, counted) ∙ ap (λ q. q.room) c.self.view_is
