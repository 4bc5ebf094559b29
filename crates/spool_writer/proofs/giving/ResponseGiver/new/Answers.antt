use Rattle.spool_writer.proofs.Accounts.{nothing_kept}
use Rattle.spool_writer.proofs.giving.ResponseGiver.new.Goals as goal

pub invariant_of-result : goal.invariant_of-result
invariant_of-result c = nothing_kept _ _ c.requires c.new.ensures
