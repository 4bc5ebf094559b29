use Rattle.std.proofs.Common.{refl}
use Rattle.ledger_rules.proofs.Serials.{counts_more}
use Rattle.ledger_rules.proofs.tally.Tally.take.Goals as goal

pub returns-clause-counted : goal.returns-clause-counted
returns-clause-counted c =
    λ serials counts. counts_more c.args.self.now _ serials c.args.serial c.between-gap.result counts c.between-gap.ensures c.or-self.ensures refl refl refl
