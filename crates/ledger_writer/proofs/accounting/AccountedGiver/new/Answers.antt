use Rattle.ledger_writer.proofs.Accounts.{none_given}
use Rattle.ledger_writer.proofs.accounting.AccountedGiver.new.Goals as goal

pub invariant_of-result : goal.invariant_of-result
invariant_of-result c = none_given c.args.giver _ _ c.requires.0 c.requires.1 c.new.ensures c.new-2.ensures
