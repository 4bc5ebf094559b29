use Rattle.std.proofs.Common.{◌≡◌}
use Rattle.ledger_writer.proofs.inlet.LedgerInlet.count_all_lost.Given as goal

-- Nothing is handed over, and nothing is told as left.
abbrev pub invariant-loop : goal.invariant-loop
invariant-loop g l = (l.self.accounted.handed ≡ l.fn.self.accounted.handed) × (l.self.accounted.left ≡ l.fn.self.accounted.left)
