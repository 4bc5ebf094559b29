use Rattle.ledger_writer.proofs.Accounts.{count_given}
use Rattle.ledger_writer.proofs.accounting.AccountedGiver.give_note.Goals as goal

pub invariant_of-self : goal.invariant_of-self
invariant_of-self c = count_given _ _ _ _ _ c.args.key 1 c.of_count-note.result (c.args.time, c.of_count-note.ensures.parcel) c.give.ensures.given c.self.invariant
