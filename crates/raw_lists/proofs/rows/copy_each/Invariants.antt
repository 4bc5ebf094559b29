use Rattle.raw_lists.specs.Sliding.{IsFront}
use Rattle.raw_lists.proofs.rows.copy_each.Given as goal

abbrev pub invariant-loop : goal.invariant-loop
invariant-loop g l = IsFront l.row.items l.items
