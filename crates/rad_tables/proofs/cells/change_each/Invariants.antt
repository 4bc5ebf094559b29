use Rattle.std.proofs.Common.{◌≡◌, ℕ, ◌<◌, ◌≤◌}
use Rattle.std.specs.Option.{option_map}
use Rattle.rad_tables.specs.internal.Kept.{at, contents_of}
use Rattle.rad_tables.proofs.cells.change_each.Given as goal

abbrev pub invariant-loop-cell : goal.invariant-loop-cell
invariant-loop-cell g l = record {
  done : (place : ℕ) → place < l.cell-index → at (contents_of l.cells) place ≡ option_map (g.C.Change.changed l.change) (at (contents_of l.initial.cells) place);
  left : (place : ℕ) → l.cell-index ≤ place → at (contents_of l.cells) place ≡ at (contents_of l.initial.cells) place;
}
