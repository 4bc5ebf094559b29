use Rattle.std.proofs.Common.{◌≡◌, ◌++◌, ◌∷◌, [], length, rules, arith}
use Rattle.rad_config.proofs.Places.{client_pushed_as}
use Rattle.rad_config.proofs.clients.Clients.push.Goals as goal

pub invariant_of-self-2 : goal.invariant_of-self-2
invariant_of-self-2 c =
    let items = c.self.inside.items.items in
    let place : c.len.result ≡ length items = search rules in
    let grown : c.push.new.self.items ≡ items ++ c.args.client ∷ [] = grind (arith, c.unwrap.ensures, c.push.ensures.items, c.in_ok-reserve.ensures.items) in
    client_pushed_as c.self.inside.places c.insert.new.self items c.push.new.self.items c.args.client c.address.result c.len.result c.self.invariant c.address.ensures place grown c.in_ok-insert.ensures.updates.0 (rw c.self.view_is c.requires)
