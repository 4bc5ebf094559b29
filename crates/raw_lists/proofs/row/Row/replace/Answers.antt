use Rattle.std.proofs.Common.{◌+◌, ◌<◌, Some, None, ◌∙◌, length, get_or, set, sym, ap, subst, arith}
use Rattle.std.proofs.lemmas.List.{length-set, get_or-set_same}
use Rattle.raw_lists.proofs.RowPlaces.{inside, filled_at, row_replaced}
use Rattle.raw_lists.proofs.row.Row.replace.Goals as goal

pub read-other-requires : goal.read-other-requires
read-other-requires g c =
    let r = c.self.inside in let within = subst (λ q. c.args.place < length q.items) (sym c.self.view_is) c.requires in
    filled_at r.places r.start r.count r.region.places c.self.invariant c.args.place within

pub write-requires : goal.write-requires
write-requires g c =
    let r = c.self.inside in let within = subst (λ q. c.args.place < length q.items) (sym c.self.view_is) c.requires in
    let there = inside r.places r.start r.count r.region.places c.self.invariant in let all = c.self.invariant.all in let counted = c.self.invariant.run.counted in
    let emptied = c.read-other.ensures.places.0 in (
      omega (arith, within, there, all, counted, ap length emptied ∙ length-set r.region.places (r.start + c.args.place) None),
      ap (λ l. get_or l (r.start + c.args.place) None) emptied ∙ get_or-set_same r.region.places (r.start + c.args.place) None None (omega (arith, within, there, all, counted)),
    )

pub invariant_of-self : goal.invariant_of-self
invariant_of-self g c =
    let r = c.self.inside in let within = subst (λ q. c.args.place < length q.items) (sym c.self.view_is) c.requires in
    (row_replaced r.places r.start r.count r.region.places c.self.invariant c.args.place c.args.item c.write.new.self.places within
    (c.write.ensures.0 ∙ ap (λ l. set l (r.start + c.args.place) (Some c.args.item)) c.read-other.ensures.places.0)).0

pub returns-clause-items : goal.returns-clause-items
returns-clause-items g c =
    let r = c.self.inside in let within = subst (λ q. c.args.place < length q.items) (sym c.self.view_is) c.requires in
    (row_replaced r.places r.start r.count r.region.places c.self.invariant c.args.place c.args.item c.write.new.self.places within
    (c.write.ensures.0 ∙ ap (λ l. set l (r.start + c.args.place) (Some c.args.item)) c.read-other.ensures.places.0)).1
    ∙ ap (λ q. set q.items c.args.place c.args.item) c.self.view_is
