use Rattle.ledger_writer.proofs.Accounts.{gives_if, request_given}
use Rattle.ledger_writer.proofs.accounting.AccountedGiver.give_left.Goals as goal

pub invariant_of-self : goal.invariant_of-self
invariant_of-self c = request_given _ _ _ _ _ c.args.told.now c.args.parcel.now c.requires.its (gives_if _ _ _ _ c.if-is_put.true c.give-is_put.ensures.given) c.add.ensures c.self.invariant
