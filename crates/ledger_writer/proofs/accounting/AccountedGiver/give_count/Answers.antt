use Rattle.ledger_writer.proofs.Accounts.{count_given, still_given}
use Rattle.ledger_writer.proofs.accounting.AccountedGiver.give_count.Goals as goal

pub invariant_of-self : goal.invariant_of-self
invariant_of-self c = still_given _ _ _ _ (record { heads = c.is_past_half.ensures.looked.0.1; packets = c.is_past_half.ensures.looked.1.1 }) c.self.invariant

pub invariant_of-self-2 : goal.invariant_of-self-2
invariant_of-self-2 c =
    let still = still_given _ _ _ _ (record { heads = c.is_past_half.ensures.looked.0.1; packets = c.is_past_half.ensures.looked.1.1 }) c.self.invariant in
    count_given _ _ _ _ _ c.args.key c.args.count c.of_count-parcel.result (c.args.time, c.of_count-parcel.ensures.parcel) c.give.ensures.given still
