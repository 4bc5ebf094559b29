use Rattle.std.proofs.lemmas.List.{length-map}
use Rattle.std.proofs.Common.{◌≡◌, ◌<◌, Some, sym, ap, subst, ◌∙◌, arith, length, vec_capacity}
use Rattle.std.specs.FinMap as map
use Rattle.rad_tables.specs.Pairs.{IsInRange}
use Rattle.rad_tables.specs.internal.Kept.{contents_of, entry_of}
use Rattle.rad_tables.proofs.ContentsLemmas.{len_at_most}
use Rattle.rad_tables.proofs.KeptLemmas.{entries_of-set_used, kept_put, place_below, room_for_one, table}
use Rattle.rad_tables.proofs.slots.Slots.put.Goals as goal

pub overflow_cast-len : goal.overflow_cast-len
overflow_cast-len g c =
    let kept = c.self.invariant in
    omega (arith, len_at_most (contents_of c.self.inside.cells.items), kept.count, kept.pairs, kept.most, c.self.inside.places.ok.0)

pub push_reserved-requires : goal.push_reserved-requires
push_reserved-requires g c =
    let slot = c.args.slot in
    let free = ap (λ t. map.get t.entries slot) c.self.view_is ∙ c.requires.free in
    let ports = ap (λ t. t.ports) c.self.view_is in
    let range : IsInRange c.self.inside.ports slot = subst (λ n. IsInRange n slot) (sym ports) c.requires.in_range in
    subst (λ n. n < vec_capacity c.self.inside.places) (sym c.self.inside.places.ok.0) (room_for_one (contents_of c.self.inside.cells.items) _ _ _ _ _ c.self.invariant slot range free)

pub invariant_of-self : goal.invariant_of-self
invariant_of-self g c =
    let slot = c.args.slot in
    let free = ap (λ t. map.get t.entries slot) c.self.view_is ∙ c.requires.free in
    let ports = ap (λ t. t.ports) c.self.view_is in
    let range : IsInRange c.self.inside.ports slot = subst (λ n. IsInRange n slot) (sym ports) c.requires.in_range in
    let count : c.len.result ≡ length c.self.inside.places.items = c.len.ensures ∙ c.self.inside.places.ok.0 in
    kept_put c.self.inside.cells.items _ _ _ _ _ c.self.invariant slot c.place_of-place.result c.len.result c.args.entry _ _
    c.place_of-place.ensures count c.push_reserved.ensures.items c.push_reserved.ensures.capacity range free

pub returns : goal.returns
returns g c =
    let slot = c.args.slot in
    let cells = c.self.inside.cells.items in
    let ports = ap (λ t. t.ports) c.self.view_is in
    let range : IsInRange c.self.inside.ports slot = subst (λ n. IsInRange n slot) (sym ports) c.requires.in_range in
    let inside = place_below (contents_of cells) _ _ _ _ _ c.self.invariant slot range in
    ap (λ entries. table c.self.inside.ports entries (Some slot))
    (entries_of-set_used cells slot c.place_of-place.result c.args.entry c.place_of-place.ensures range.1 inside)
    ∙ ap (λ t. table t.ports (map.insert t.entries slot c.args.entry) (Some slot)) c.self.view_is

pub index_mut-requires : goal.index_mut-requires
index_mut-requires g c =
    let kept = c.self.invariant in
    let ports = ap (λ t. t.ports) c.self.view_is in
    omega (arith, ports, c.requires.in_range.0, c.requires.in_range.1, c.place_of-place.ensures, kept.pairs, kept.index.back, c.self.inside.positions.ok.0)

pub overflow_cast-place : goal.overflow_cast-place
overflow_cast-place g c =
    let kept = c.self.invariant in
    let ports = ap (λ t. t.ports) c.self.view_is in
    omega (arith, ports, c.requires.in_range.0, c.requires.in_range.1, c.place_of-place.ensures, kept.most)

pub index_mut-requires-2 : goal.index_mut-requires-2
index_mut-requires-2 g c =
    let kept = c.self.invariant in
    let ports = ap (λ t. t.ports) c.self.view_is in
    omega (arith, ports, c.requires.in_range.0, c.requires.in_range.1, c.place_of-place.ensures, kept.pairs, length-map c.self.inside.cells.items entry_of, c.self.inside.cells.ok.0)
