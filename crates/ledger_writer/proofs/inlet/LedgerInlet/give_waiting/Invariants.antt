use Rattle.std.proofs.Common.{◌≡◌}
use Rattle.ledger_writer.specs.Buffer.{GivesNothing}
use Rattle.ledger_writer.proofs.inlet.LedgerInlet.give_waiting.Given as goal

-- Nothing is put into the buffer yet, and the request is not told yet.
abbrev pub invariant-loop : goal.invariant-loop
invariant-loop g l = record {
  put : GivesNothing l.fn.self.accounted.giver l.self.accounted.giver;
  left : l.self.accounted.left ≡ l.fn.self.accounted.left;
}
