use Rattle.std.proofs.Common.{◌≡◌, ◌<◌, ◌+◌, length, get_or, Some, sym, subst, refl, ◌∙◌, arith, ap, is_some}
use Rattle.std.proofs.lemmas.List.{length-map}
use Rattle.rad_tables.specs.internal.Kept.{at, contents_of, entry_of}
use Rattle.rad_tables.specs.internal.Least.{IsEarliestOf, IsEarliestAmong, sooner}
use Rattle.rad_tables.proofs.IndexLemmas.{within}
use Rattle.rad_tables.proofs.KeptLemmas.{cell_at}
use Rattle.rad_tables.proofs.DueLemmas.{earliest_more}
use Rattle.rad_tables.proofs.cells.earliest_of.Goals as goal

pub loop-place-preserved : goal.loop-place-preserved
loop-place-preserved g c =
    let due_of = g.T.Timed.due_of in
    let cells = c.args.cells.now in
    let places = c.args.places.now in
    let contents = contents_of cells in
    let n = c.loop-place.place-index in
    let inside : n < length places = omega arith in
    let fits : c.from.result < length cells = omega (arith, within contents (get_or places n 0) (c.requires n inside), length-map cells entry_of) in
    let here : at contents (get_or places n 0) ≡ Some c.entry.result.now =
    cell_at cells c.from.result (get_or places n 0) c.index-cells-from.result c.from.ensures fits c.index-cells-from.is ∙ c.entry.ensures in
    subst (λ m. IsEarliestOf due_of contents places (n + 1) m) (ap (λ d. sooner d c.loop-place.earliest) (sym c.due-due.ensures) ∙ sym c.sooner.ensures)
    (earliest_more due_of contents places n c.entry.result.now here c.loop-place.earliest c.loop-place.invariant)

pub loop-place-init : goal.loop-place-init
loop-place-init g c = refl

pub offset_bounds-cells-from : goal.offset_bounds-cells-from
offset_bounds-cells-from g c =
    let cells = c.args.cells.now in
    let places = c.args.places.now in
    let contents = contents_of cells in
    let n = c.loop-place.place-index in
    let inside : n < length places = omega arith in
    let below : get_or places n 0 < length contents = within contents (get_or places n 0) (c.requires n inside) in
    omega (arith, below, length-map cells entry_of, c.from.ensures)

pub bounds-cells-from : goal.bounds-cells-from
bounds-cells-from g c =
    let cells = c.args.cells.now in
    let places = c.args.places.now in
    let contents = contents_of cells in
    let n = c.loop-place.place-index in
    let inside : n < length places = omega arith in
    let below : get_or places n 0 < length contents = within contents (get_or places n 0) (c.requires n inside) in
    omega (arith, below, length-map cells entry_of, c.from.ensures)

pub entry-requires : goal.entry-requires
entry-requires g c =
    let cells = c.args.cells.now in
    let places = c.args.places.now in
    let contents = contents_of cells in
    let n = c.loop-place.place-index in
    let inside : n < length places = omega arith in
    let below : get_or places n 0 < length contents = within contents (get_or places n 0) (c.requires n inside) in
    let fits : c.from.result < length cells = omega (arith, below, length-map cells entry_of, c.from.ensures) in
    ap is_some (sym (cell_at cells c.from.result (get_or places n 0) c.index-cells-from.result c.from.ensures fits c.index-cells-from.is)) ∙ c.requires n inside

pub loop-place-smaller : goal.loop-place-smaller
loop-place-smaller g c = omega arith

pub returns : goal.returns
returns g c =
    let end : c.loop-place.place-index ≡ length c.args.places.now = omega arith in
    subst (λ n. IsEarliestAmong g.T.Timed.due_of (contents_of c.args.cells.now) c.args.places.now n c.loop-place.earliest) end c.loop-place.invariant
