use Rattle.std.proofs.Common.{◌≡◌, ◌∙◌, ap, refl, map, length, take}
use Rattle.std.specs.Char.{to_ascii_lowercase}
use Rattle.std.proofs.lemmas.List.{length-map, take_at}
use Rattle.rad_config.proofs.Names.{too_long, rank_found}
use Rattle.rad_config.proofs.realms.Realms.find.Goals as goal

pub returns-then-name-gt-LONGEST_REALM-clause-lane : goal.returns-then-name-gt-LONGEST_REALM-clause-lane
returns-then-name-gt-LONGEST_REALM-clause-lane c =
    rw (← c.self.view_is, too_long c.self.inside.items.items c.args.name.now c.self.invariant.short c.if-name-gt-LONGEST_REALM.true) refl

pub returns-clause-lane : goal.returns-clause-lane
returns-clause-lane c =
    let name = map to_ascii_lowercase c.args.name.now in
    let as_long : length name ≡ length c.args.name.now = length-map c.args.name.now to_ascii_lowercase in
    let folded : c.front.result.now ≡ name = c.front.ensures ∙ ap (take (length c.args.name.now)) c.put_lower_case.ensures ∙ take_at name _ _ as_long in
    rw (c.destination_kept.ensures, folded, c.self.invariant.finds name, ← c.self.view_is) refl

pub returns-clause-rank : goal.returns-clause-rank
returns-clause-rank c =
    let name = map to_ascii_lowercase c.args.name.now in
    let as_long : length name ≡ length c.args.name.now = length-map c.args.name.now to_ascii_lowercase in
    let folded : c.front.result.now ≡ name = c.front.ensures ∙ ap (take (length c.args.name.now)) c.put_lower_case.ensures ∙ take_at name _ _ as_long in
    rw (← c.self.view_is) (rank_found c.self.inside.by_name c.self.inside.items.items c.args.name.now c.destination_kept.result c.self.invariant (rw folded at c.destination_kept.ensures))
