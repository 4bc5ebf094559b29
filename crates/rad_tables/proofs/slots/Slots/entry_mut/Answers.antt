use Rattle.std.proofs.Common.{◌<◌, is_some, refl, sym, ap, ◌∙◌, arith, length}
use Rattle.std.proofs.lemmas.List.{length-map}
use Rattle.std.specs.FinMap as map
use Rattle.rad_tables.specs.Lends.{with_entry}
use Rattle.rad_tables.specs.internal.Kept.{place_of, contents_of, entry_of}
use Rattle.rad_tables.proofs.ContentsLemmas.{get_slot}
use Rattle.rad_tables.proofs.IndexLemmas.{within}
use Rattle.rad_tables.proofs.KeptLemmas.{entries_of-set_used, cell_at, kept_write, used_there, table}
use Rattle.rad_tables.proofs.slots.Slots.entry_mut.Goals as goal

pub index_mut-requires : goal.index_mut-requires
index_mut-requires g c =
    let cells = c.self.inside.cells.items in
    let slot = c.args.slot in
    let used = used_there (contents_of cells) slot _ (omega arith) (ap (λ t. map.get t.entries slot) c.self.view_is) c.requires in
    omega (arith, within (contents_of cells) (place_of slot) used, length-map cells entry_of, c.self.inside.cells.ok.0)

pub entry_mut-requires : goal.entry_mut-requires
entry_mut-requires g c =
    let cells = c.self.inside.cells.items in
    let slot = c.args.slot in
    let used = used_there (contents_of cells) slot _ (omega arith) (ap (λ t. map.get t.entries slot) c.self.view_is) c.requires in
    let fits : c.place_of.result < length cells = omega (arith, within (contents_of cells) (place_of slot) used, length-map cells entry_of) in
    ap is_some (sym (cell_at cells c.place_of.result (place_of slot) c.index_mut.result.now c.place_of.ensures fits c.index_mut.ensures.value)) ∙ used

pub invariant_of-self-lent : goal.invariant_of-self-lent
invariant_of-self-lent g c w =
    let cells = c.self.inside.cells.items in
    let slot = c.args.slot in
    let used = used_there (contents_of cells) slot _ (omega arith) (ap (λ t. map.get t.entries slot) c.self.view_is) c.requires in
    kept_write cells _ _ _ _ _ c.self.invariant slot c.place_of.result w c.place_of.ensures (omega arith) used

pub returns : goal.returns
returns g c =
    let cells = c.self.inside.cells.items in
    let slot = c.args.slot in
    let found = ap (λ t. map.get t.entries slot) c.self.view_is in
    let used = used_there (contents_of cells) slot _ (omega arith) found c.requires in
    let inside = within (contents_of cells) (place_of slot) used in
    let fits : c.place_of.result < length cells = omega (arith, inside, length-map cells entry_of) in (
      (
        refl {a = c.entry_mut.result.ghost_name},
        λ w.
            ap (λ entries. table c.self.inside.ports entries c.self.inside.allotted) (entries_of-set_used cells slot c.place_of.result w c.place_of.ensures (omega arith) inside)
            ∙ ap (λ t. with_entry t slot w) c.self.view_is,
      ),
      record {
        writes_back = tt;
        value =
            sym found ∙ get_slot (contents_of cells) slot (omega arith)
            ∙ cell_at cells c.place_of.result (place_of slot) c.index_mut.result.now c.place_of.ensures fits c.index_mut.ensures.value
            ∙ c.entry_mut.ensures.value;
      },
    )
