use Rattle.std.proofs.Common.{◌<◌, length, sym, ap, ◌∙◌, arith, refl}
use Rattle.std.specs.Option.{option_map}
use Rattle.rad_tables.specs.internal.Kept.{entry_of}
use Rattle.rad_tables.proofs.ChangeLemmas.{one_more_done, one_less_left, all_done}
use Rattle.rad_tables.proofs.cells.change_each.Goals as goal

pub loop-cell-preserved : goal.loop-cell-preserved
loop-cell-preserved g c =
    let f = g.C.Change.changed c.args.change.now in
    let cells = c.loop-cell.cells in
    let n = c.loop-cell.cell-index in
    let inside : n < length cells = omega (arith, c.loop-cell.auto.cells) in
    let change = c.change.ensures ∙ ap (λ x. option_map f (entry_of x)) (sym c.cell-item.is) in
    record {
      done = one_more_done f c.args.cells.now cells n c.cell-item.result c.change.new.self inside c.cell-item.is change c.loop-cell.invariant.left c.loop-cell.invariant.done;
      left = one_less_left f c.args.cells.now cells n c.cell-item.result c.change.new.self inside c.cell-item.is change c.loop-cell.invariant.left;
    }

pub returns : goal.returns
returns g c =
    all_done (g.C.Change.changed c.args.change.now) c.args.cells.now c.loop-cell.cells c.loop-cell.cell-index c.loop-cell.auto.cells (omega arith) c.loop-cell.invariant.done

pub loop-cell-init : goal.loop-cell-init
loop-cell-init g c = record { done = λ place below. absurd (omega arith); left = λ place above. refl }

pub bounds-cells-cell-index : goal.bounds-cells-cell-index
bounds-cells-cell-index g c = omega arith

pub loop-cell-smaller : goal.loop-cell-smaller
loop-cell-smaller g c = omega arith
