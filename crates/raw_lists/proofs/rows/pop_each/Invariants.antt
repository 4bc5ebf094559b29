use Rattle.std.proofs.Common.{◌≡◌, drop}
use Rattle.raw_lists.proofs.rows.pop_each.Given as goal

abbrev pub invariant-loop : goal.invariant-loop
invariant-loop g l = l.row.items ≡ drop l.counter l.fn.row.items
