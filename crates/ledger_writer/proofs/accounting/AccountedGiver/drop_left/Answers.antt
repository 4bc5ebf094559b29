use Rattle.ledger_writer.proofs.Accounts.{request_dropped}
use Rattle.ledger_writer.proofs.accounting.AccountedGiver.drop_left.Goals as goal

pub invariant_of-self : goal.invariant_of-self
invariant_of-self c = request_dropped _ _ _ _ c.args.told.now c.add.ensures c.self.invariant
