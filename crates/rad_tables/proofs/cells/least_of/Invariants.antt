use Rattle.std.proofs.Common.{MatchOption}
use Rattle.rad_tables.specs.internal.Least.{NoneAmong, IsLeastAmong}
use Rattle.rad_tables.specs.internal.Kept.{contents_of}
use Rattle.rad_tables.proofs.cells.least_of.Given as goal

-- the first to be due of the places so far
abbrev pub invariant-loop-place : goal.invariant-loop-place
invariant-loop-place g l =
    let t = g.T.Timed in
    let contents = contents_of l.cells in
    MatchOption l.least
    (NoneAmong t.spent_of contents l.places l.spent l.place-index)
    (IsLeastAmong t.due_of t.number_of t.spent_of contents l.places l.spent l.place-index)
