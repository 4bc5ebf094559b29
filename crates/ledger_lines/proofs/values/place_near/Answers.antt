use Rattle.std.proofs.Common.{map}
use Rattle.ledger_lines.proofs.Known.{near}
use Rattle.ledger_lines.proofs.values.place_near.Goals as goal

pub returns-in-None : goal.returns-in-None
returns-in-None c = near (map (λ k. k.now) c.args.known.now) c.args.key.now _ c.place_from-in-None.result c.place_from-in-None.ensures
