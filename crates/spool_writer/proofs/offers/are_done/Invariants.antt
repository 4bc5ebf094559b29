use Rattle.std.proofs.Common.{◌≡◌, ℕ, ◌<◌, false, is_some}
use Rattle.spool_writer.specs.Offers.{waiting_at}
use Rattle.spool_writer.proofs.offers.are_done.Given as goal

abbrev pub invariant-loop-lane : goal.invariant-loop-lane
invariant-loop-lane l = (k : ℕ) → k < l.lane → is_some (waiting_at l.lanes k) ≡ false
