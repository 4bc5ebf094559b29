use Rattle.std.proofs.Common.{◌<◌, ◌∙◌, length, slice_get, sym, ap, subst}
use Rattle.raw_lists.proofs.Places.{filled_at, shown_at}
use Rattle.raw_lists.proofs.block.Block.get.Goals as goal

pub get-requires : goal.get-requires
get-requires g c =
    let r = c.self.inside in let within = subst (λ q. c.args.index < length q.items) (sym c.self.view_is) c.requires in
    filled_at r.start r.count r.region.places c.self.invariant c.args.index within

pub returns : goal.returns
returns g c =
    let r = c.self.inside in let within = subst (λ q. c.args.index < length q.items) (sym c.self.view_is) c.requires in
    sym (ap (λ q. slice_get q.items c.args.index) c.self.view_is) ∙ sym (shown_at r.start r.count r.region.places c.self.invariant c.args.index within) ∙ c.get.ensures
