use Rattle.std.proofs.Common.{◌≤◌, ◌-◌, ◌++◌, [], ◌∷◌, ◌∙◌, sym, ap, subst, arith}
use Rattle.raw_lists.proofs.Places.{slid_is}
use Rattle.raw_lists.proofs.RowPlaces.{room_behind, row_pushed}
use Rattle.raw_lists.proofs.row.Row.push.Goals as goal

pub write-requires : goal.write-requires
write-requires g c =
    let r = c.self.inside in let room = subst (λ q. 1 ≤ q.room) (sym c.self.view_is) c.requires in
    room_behind r.places r.start r.count r.region.places c.self.invariant room

pub invariant_of-self : goal.invariant_of-self
invariant_of-self g c =
    let r = c.self.inside in let room = subst (λ q. 1 ≤ q.room) (sym c.self.view_is) c.requires in
    (row_pushed r.places r.start r.count r.region.places c.self.invariant room c.args.item c.write.new.self.places c.write.ensures.0).0

pub returns : goal.returns
returns g c =
    let r = c.self.inside in let room = subst (λ q. 1 ≤ q.room) (sym c.self.view_is) c.requires in
    slid_is (ap (λ q. q.before) c.self.view_is)
    ((row_pushed r.places r.start r.count r.region.places c.self.invariant room c.args.item c.write.new.self.places c.write.ensures.0).1 ∙ ap (λ q. q.items ++ c.args.item ∷ []) c.self.view_is)
    (omega arith ∙ ap (λ q. q.room - 1) c.self.view_is)
