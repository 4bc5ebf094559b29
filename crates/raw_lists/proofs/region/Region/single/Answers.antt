use Rattle.std.proofs.Common.{◌≡◌, List, Option, IfOk, subst}
use Rattle.raw_lists.proofs.Places.{laid-one}
use Rattle.raw_lists.proofs.region.Region.single.Goals as goal

pub returns : goal.returns
returns g c = subst (λ (l : List (Option g.row.T.Denot)). IfOk c.allocate.result (λ r. (r.places ≡ l) × (r.heap ≡ c.args.alloc.now))) laid-one c.allocate.ensures
