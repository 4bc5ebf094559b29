use Rattle.spool_writer.proofs.Accounts.{nothing_told}
use Rattle.spool_writer.proofs.giving.RequestGiver.new.Goals as goal

pub invariant_of-result : goal.invariant_of-result
invariant_of-result c = nothing_told _ _ c.requires c.new.ensures
