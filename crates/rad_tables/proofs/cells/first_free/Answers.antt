use Rattle.std.proofs.Common.{◌≡◌, ◌<◌, length, is_some, refl, sym, ap, ◌∙◌, inl, inr, arith}
use Rattle.std.proofs.lemmas.Bool.{cases_lt}
use Rattle.rad_tables.specs.internal.Kept.{at, contents_of, entry_of}
use Rattle.rad_tables.proofs.KeptLemmas.{cell_at, some_of_not_none, none_of_is_none}
use Rattle.rad_tables.proofs.cells.first_free.Goals as goal

pub loop-place-preserved : goal.loop-place-preserved
loop-place-preserved g c = λ place low below.
    let cells = c.args.cells.now in
    let here = c.loop-place.place in
    let fits : here < length cells = omega arith in
    elim (cases_lt place here) [
      | inl earlier ↦ c.loop-place.invariant place low earlier
      | inr late ↦
          let same : place ≡ here = omega arith in
          ap (λ q. is_some (at (contents_of cells) q)) same
          ∙ ap is_some (cell_at cells here here c.index-cells-place.result refl fits c.index-cells-place.is)
          ∙ some_of_not_none (entry_of c.index-cells-place.result) (sym c.if-is_free.ensures)
    ]

pub loop-place-init : goal.loop-place-init
loop-place-init g c = λ place low below. absurd (omega arith)

pub offset_bounds-cells-place : goal.offset_bounds-cells-place
offset_bounds-cells-place g c = omega arith

pub bounds-cells-place : goal.bounds-cells-place
bounds-cells-place g c = omega arith

pub returns-then-is_free : goal.returns-then-is_free
returns-then-is_free g c =
    let cells = c.args.cells.now in
    let here = c.loop-place.place in
    let fits : here < length cells = omega arith in
    record {
      above = omega arith;
      below = omega arith;
      free =
          cell_at cells here here c.index-cells-place.result refl fits c.index-cells-place.is
          ∙ none_of_is_none (entry_of c.index-cells-place.result) (sym c.if-is_free.ensures);
      passed = c.loop-place.invariant;
    }

pub loop-place-smaller : goal.loop-place-smaller
loop-place-smaller g c = omega arith

pub returns : goal.returns
returns g c = λ place low high. c.loop-place.invariant place low (omega arith)
