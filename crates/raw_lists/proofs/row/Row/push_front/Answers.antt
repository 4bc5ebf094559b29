use Rattle.std.proofs.Common.{◌≤◌, ◌-◌, ◌∷◌, ◌∙◌, sym, ap, subst, arith}
use Rattle.raw_lists.proofs.Places.{slid_is}
use Rattle.raw_lists.proofs.RowPlaces.{room_ahead, row_fronted}
use Rattle.raw_lists.proofs.row.Row.push_front.Goals as goal

pub write-requires : goal.write-requires
write-requires g c =
    let r = c.self.inside in let some = subst (λ q. 1 ≤ q.before) (sym c.self.view_is) c.requires in
    room_ahead r.places r.start r.count r.region.places c.self.invariant some

pub invariant_of-self : goal.invariant_of-self
invariant_of-self g c =
    let r = c.self.inside in let some = subst (λ q. 1 ≤ q.before) (sym c.self.view_is) c.requires in
    (row_fronted r.places r.start r.count r.region.places c.self.invariant some c.args.item c.write.new.self.places c.write.ensures.0).0

pub returns : goal.returns
returns g c =
    let r = c.self.inside in let some = subst (λ q. 1 ≤ q.before) (sym c.self.view_is) c.requires in
    slid_is (ap (λ q. q.before - 1) c.self.view_is)
    ((row_fronted r.places r.start r.count r.region.places c.self.invariant some c.args.item c.write.new.self.places c.write.ensures.0).1 ∙ ap (λ q. c.args.item ∷ q.items) c.self.view_is)
    (omega arith ∙ ap (λ q. q.room) c.self.view_is)
