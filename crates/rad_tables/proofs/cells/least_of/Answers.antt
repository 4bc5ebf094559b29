use Rattle.std.proofs.Common.{◌≡◌, ◌<◌, ◌+◌, length, get_or, Option, Some, sym, subst, ◌∙◌, arith, ap, is_some}
use Rattle.std.proofs.lemmas.List.{length-map}
use Rattle.rad_tables.specs.declared.cells.Waiting.{Waiting}
use Rattle.rad_tables.specs.internal.Kept.{at, contents_of, entry_of}
use Rattle.rad_tables.proofs.IndexLemmas.{within}
use Rattle.rad_tables.proofs.KeptLemmas.{cell_at, same_bools, other_bools}
use Rattle.rad_tables.proofs.DueLemmas.{IsFirst, first_skipped, first_taken}
use Rattle.rad_tables.proofs.cells.least_of.Goals as goal
use Rattle.rad_tables.proofs.cells.least_of.Goals.{then-spent, else-spent}

pub loop-place-preserved : goal.loop-place-preserved
loop-place-preserved g c =
    let t = g.T.Timed in
    let cells = c.args.cells.now in
    let places = c.args.places.now in
    let contents = contents_of cells in
    let n = c.loop-place.place-index in
    let inside : n < length places = omega arith in
    let fits : c.from-place.result < length cells = omega (arith, within contents (get_or places n 0) (c.requires n inside), length-map cells entry_of) in
    let here : at contents (get_or places n 0) ≡ Some c.entry-entry.result.now =
    cell_at cells c.from-place.result (get_or places n 0) c.index-cells-place.result c.from-place.ensures fits c.index-cells-place.is ∙ c.entry-entry.ensures in
    elim c.if-spent.branch [
      | then-spent w ↦
          subst (λ (o : Option Waiting). IsFirst t.due_of t.number_of t.spent_of contents places c.args.spent (n + 1) o) (sym w.least-is)
          (first_taken t.due_of t.number_of t.spent_of contents places c.args.spent n c.entry-entry.result.now here _ c.from-place.ensures w.due.ensures w.number.ensures
          (sym c.spent.ensures ∙ same_bools _ _ w.if-spent.true) c.loop-place.least w.earlier.result w.earlier.ensures c.loop-place.invariant)
      | else-spent w ↦
          subst (λ (o : Option Waiting). IsFirst t.due_of t.number_of t.spent_of contents places c.args.spent (n + 1) o) (sym w.least-is)
          (first_skipped t.due_of t.number_of t.spent_of contents places c.args.spent n c.entry-entry.result.now here c.loop-place.least
          (λ e. other_bools _ _ w.if-spent.false (c.spent.ensures ∙ e)) c.loop-place.invariant)
    ]

pub loop-place-init : goal.loop-place-init
loop-place-init g c = λ i entry below. absurd (omega arith)

pub offset_bounds-cells-place : goal.offset_bounds-cells-place
offset_bounds-cells-place g c =
    let cells = c.args.cells.now in
    let places = c.args.places.now in
    let contents = contents_of cells in
    let n = c.loop-place.place-index in
    let inside : n < length places = omega arith in
    let below : get_or places n 0 < length contents = within contents (get_or places n 0) (c.requires n inside) in
    omega (arith, below, length-map cells entry_of, c.from-place.ensures)

pub bounds-cells-place : goal.bounds-cells-place
bounds-cells-place g c =
    let cells = c.args.cells.now in
    let places = c.args.places.now in
    let contents = contents_of cells in
    let n = c.loop-place.place-index in
    let inside : n < length places = omega arith in
    let below : get_or places n 0 < length contents = within contents (get_or places n 0) (c.requires n inside) in
    omega (arith, below, length-map cells entry_of, c.from-place.ensures)

pub entry-entry-requires : goal.entry-entry-requires
entry-entry-requires g c =
    let cells = c.args.cells.now in
    let places = c.args.places.now in
    let contents = contents_of cells in
    let n = c.loop-place.place-index in
    let inside : n < length places = omega arith in
    let below : get_or places n 0 < length contents = within contents (get_or places n 0) (c.requires n inside) in
    let fits : c.from-place.result < length cells = omega (arith, below, length-map cells entry_of, c.from-place.ensures) in
    ap is_some (sym (cell_at cells c.from-place.result (get_or places n 0) c.index-cells-place.result c.from-place.ensures fits c.index-cells-place.is)) ∙ c.requires n inside

pub loop-place-smaller : goal.loop-place-smaller
loop-place-smaller g c = omega arith

pub returns : goal.returns
returns g c =
    let t = g.T.Timed in
    let end : c.loop-place.place-index ≡ length c.args.places.now = omega arith in
    subst (λ n. IsFirst t.due_of t.number_of t.spent_of (contents_of c.args.cells.now) c.args.places.now c.args.spent n c.loop-place.least) end c.loop-place.invariant
