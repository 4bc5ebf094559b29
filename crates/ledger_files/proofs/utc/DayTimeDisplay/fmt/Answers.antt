use Rattle.std.specs.Fmt.{decimal}
use Rattle.ledger_files.proofs.Zeros.{zeros}
use Rattle.ledger_files.proofs.utc.DayTimeDisplay.fmt.Goals as goal

pub returns-clause-writes : goal.returns-clause-writes
returns-clause-writes g c =
    let w = rw (c.laid_out.ensures, c.laid_out-2.ensures, c.laid_out-3.ensures, c.laid_out-4.ensures) at c.write.ensures.writes in
    rw (zeros 2 (decimal c.args.self.now.hour), zeros 2 (decimal c.args.self.now.minute), zeros 2 (decimal c.args.self.now.second), zeros 3 (decimal c.args.self.now.millisecond)) at w
