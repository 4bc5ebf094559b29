use Rattle.std.proofs.Common.{◌≡◌}
use Rattle.spool_writer.proofs.offers.Offers.give_next.Given as goal

abbrev pub invariant-loop : goal.invariant-loop
invariant-loop g l = l.self.traffic ≡ l.initial.self.traffic
