use Rattle.std.proofs.Common.{refl}
use Rattle.ledger_writer.proofs.Accounts.{response_given}
use Rattle.ledger_writer.proofs.accounting.AccountedGiver.hand_over.Goals as goal

pub invariant_of-self : goal.invariant_of-self
invariant_of-self g c = response_given _ _ _ _ _ _ _ _ c.args.parcel.now c.requires.its c.give_share-is_put.ensures.given c.add.ensures refl c.self.invariant
