use Rattle.std.proofs.Common.{false}
use Rattle.std.specs.Fmt.{decimal, digits}
use Rattle.ledger_files.proofs.Zeros.{zeros}
use Rattle.ledger_files.proofs.file_name.FileNameDisplay.fmt.Goals as goal

pub returns-clause-writes : goal.returns-clause-writes
returns-clause-writes g c =
    let w = rw (c.laid_out.ensures, c.laid_out-2.ensures) at c.write.ensures.writes in
    let v = rw c.in_radix.ensures at w in
    rw (zeros 16 (digits 16 false c.args.self.now.run), zeros 6 (decimal c.args.self.now.number)) at v
