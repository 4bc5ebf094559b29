use Rattle.std.proofs.Common.{refl}
use Rattle.ledger_files.proofs.Ends.{holds_same}
use Rattle.ledger_files.proofs.batch.Batch.write.Goals as goal

pub returns-clause-lines : goal.returns-clause-lines
returns-clause-lines g c = λ lines h. holds_same c.args.self.now _ lines h refl refl refl refl refl
