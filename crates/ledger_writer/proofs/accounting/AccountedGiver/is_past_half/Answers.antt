use Rattle.ledger_writer.proofs.Accounts.{still_given}
use Rattle.ledger_writer.proofs.accounting.AccountedGiver.is_past_half.Goals as goal

pub invariant_of-self : goal.invariant_of-self
invariant_of-self c = still_given _ _ _ _ (record { heads = c.is_past_half.ensures.looked.0.1; packets = c.is_past_half.ensures.looked.1.1 }) c.self.invariant
