use Rattle.std.proofs.Common.{refl, arith}
use Rattle.raw_lists.proofs.Places.{slid_is}
use Rattle.raw_lists.proofs.RowPlaces.{row_new}
use Rattle.raw_lists.proofs.row.Row.with_places.Goals as goal

pub invariant_of-result : goal.invariant_of-result
invariant_of-result g c = (row_new c.args.places c.in_ok-with_places.field-0.places c.requires c.in_ok-with_places.ensures.0).0

pub returns : goal.returns
returns g c = slid_is refl (row_new c.args.places c.in_ok-with_places.field-0.places c.requires c.in_ok-with_places.ensures.0).1 (omega arith)
