use Rattle.ledger_rules.proofs.Serials.{tells_whole}
use Rattle.ledger_rules.proofs.tally.Tally.found.Goals as goal

pub returns-in-None : goal.returns-in-None
returns-in-None c = λ serials counts. tells_whole c.args.self.now serials counts c.in_default.is c.in-Some-end.count c.in-Some-end.is c.in-None.ensures
