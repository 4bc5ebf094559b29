use Rattle.std.proofs.Common.{◌<◌, ◌≤◌, None, sym, ap, ◌∙◌, arith, length}
use Rattle.std.proofs.lemmas.List.{length-map, get_or_past}
use Rattle.std.specs.FinMap as map
use Rattle.rad_tables.specs.internal.Kept.{place_of, contents_of, entry_of}
use Rattle.rad_tables.proofs.ContentsLemmas.{get_slot}
use Rattle.rad_tables.proofs.KeptLemmas.{cell_at}
use Rattle.rad_tables.proofs.slots.Slots.get.Goals as goal

pub returns-then-place-len-clause-value : goal.returns-then-place-len-clause-value
returns-then-place-len-clause-value g c =
    let cells = c.self.inside.cells.items in
    let slot = c.args.slot in
    let past : length (contents_of cells) ≤ place_of slot = omega (arith, length-map cells entry_of, c.self.inside.cells.ok.0) in
    sym (sym (ap (λ t. map.get t.entries slot) c.self.view_is) ∙ get_slot (contents_of cells) slot (omega arith) ∙ get_or_past (contents_of cells) (place_of slot) None past)

pub returns-clause-value : goal.returns-clause-value
returns-clause-value g c =
    let cells = c.self.inside.cells.items in
    let slot = c.args.slot in
    let place = c.place_of-place.result in
    let fits : place < length cells = omega (arith, c.self.inside.cells.ok.0) in
    c.get.ensures
    ∙ sym (cell_at cells place (place_of slot) c.index.result.now c.place_of-place.ensures fits c.index.ensures)
    ∙ sym (get_slot (contents_of cells) slot (omega arith))
    ∙ ap (λ t. map.get t.entries slot) c.self.view_is
