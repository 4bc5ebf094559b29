use Rattle.spool_writer.proofs.Accounts.{other_told}
use Rattle.spool_writer.proofs.giving.RequestGiver.note.Goals as goal

pub invariant_of-self : goal.invariant_of-self
invariant_of-self c = other_told _ _ _ _ c.requires c.add.ensures c.self.invariant
