use Rattle.std.specs.Fmt.{decimal}
use Rattle.ledger_files.proofs.Zeros.{zeros}
use Rattle.ledger_files.proofs.utc.DateDisplay.fmt.Goals as goal

pub returns-clause-writes : goal.returns-clause-writes
returns-clause-writes g c =
    let w = rw (c.laid_out.ensures, c.laid_out-2.ensures, c.laid_out-3.ensures) at c.write.ensures.writes in
    rw (zeros 4 (decimal c.args.self.now.year), zeros 2 (decimal c.args.self.now.month), zeros 2 (decimal c.args.self.now.day)) at w
