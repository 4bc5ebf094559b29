use Rattle.std.proofs.Common.{refl}
use Rattle.rad_config.proofs.Places.{client_found, client_has_address}
use Rattle.rad_config.proofs.clients.Clients.find.Goals as goal

pub returns-in_err-place-clause-found : goal.returns-in_err-place-clause-found
returns-in_err-place-clause-found c =
    let found = client_found c.self.inside.places c.self.inside.items.items c.args.address c.place_in.result c.self.invariant c.place_in.ensures in
    rw (c.from_residual.ensures, ← c.self.view_is, found, c.in_err-place.was) refl

pub returns-clause-found : goal.returns-clause-found
returns-clause-found c =
    let found = client_found c.self.inside.places c.self.inside.items.items c.args.address c.place_in.result c.self.invariant c.place_in.ensures in
    rw (c.client_at.ensures, c.as_slice.ensures.value, ← c.self.view_is, found, c.in_ok-place.was) refl

pub returns-clause-address : goal.returns-clause-address
returns-clause-address c = client_has_address c.client_at.result c.args.self.now c.args.address (returns-clause-found c)
