use Rattle.std.proofs.Common.{◌≡◌, ◌∙◌, ap, ◌++◌, ◌∷◌, [], map, arith}
use Rattle.std.specs.Char.{to_ascii_lowercase}
use Rattle.rad_config.proofs.Names.{realm_pushed, ranked}
use Rattle.rad_config.proofs.realms.Realms.push.Goals as goal

pub invariant_of-self-2 : goal.invariant_of-self-2
invariant_of-self-2 c =
    let items = c.self.inside.items.items in
    let key : c.in_ok-key.key.items ≡ map to_ascii_lowercase c.args.realm.name = c.in_ok-key.ensures ∙ ap (map to_ascii_lowercase) (c.as_bytes.ensures.value ∙ c.name.ensures) in
    let grown : c.push.new.self.items ≡ items ++ c.args.realm ∷ [] = grind (arith, c.unwrap.ensures, c.push.ensures.items, c.in_ok-reserve.ensures.items) in
    let counted : c.as_slice.result.now ≡ items = grind (arith, c.as_slice.ensures, c.in_ok-reserve.ensures.items) in
    let rank = ranked items c.as_slice.result.now c.lane-lane.result c.args.realm.lane c.count_of.result c.count_of.ensures counted c.lane-lane.ensures in
    realm_pushed c.self.inside.by_name c.insert.new.self items c.push.new.self.items c.args.realm c.in_ok-key.key _ c.self.invariant key c.lane-lane.ensures rank grown c.in_ok-insert.ensures.updates c.requires.short (rw c.self.view_is c.requires.new)
