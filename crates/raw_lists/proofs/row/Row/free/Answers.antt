use Rattle.std.proofs.Common.{refl, ap, ◌∙◌}
use Rattle.raw_lists.proofs.RowPlaces.{all_empty}
use Rattle.raw_lists.proofs.row.Row.free.Goals as goal

pub release-requires : goal.release-requires
release-requires g c =
    let r = c.self.inside in (all_empty r.places r.start r.count r.region.places c.self.invariant (ap (λ q. q.items) c.self.view_is ∙ c.requires), refl)
