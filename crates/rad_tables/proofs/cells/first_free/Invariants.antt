use Rattle.rad_tables.specs.internal.Kept.{contents_of, InUseBetween}
use Rattle.rad_tables.proofs.cells.first_free.Given as goal

abbrev pub invariant-loop-place : goal.invariant-loop-place
invariant-loop-place g l = InUseBetween (contents_of l.cells) l.from l.place
