use Rattle.rad_tables.specs.internal.Least.{IsEarliestAmong}
use Rattle.rad_tables.specs.internal.Kept.{contents_of}
use Rattle.rad_tables.proofs.cells.earliest_of.Given as goal

-- the earliest due time of the places so far
abbrev pub invariant-loop-place : goal.invariant-loop-place
invariant-loop-place g l = IsEarliestAmong g.T.Timed.due_of (contents_of l.cells) l.places l.place-index l.earliest
