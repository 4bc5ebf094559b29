-- What a line of a ledger says of its entry.
use Rattle.std.specs.Prelude.{◌≡◌, ℕ, ◌<◌, ◌^◌, List}
use Rattle.ledger_rules.specs.declared.entry.Entry.{Entry}
use Rattle.ledger_lines.specs.declared.reading.Line.{Line}
use Rattle.ledger_lines.specs.declared.reading.Line.TheVariants.{Entry as enters}
use Rattle.ledger_lines.specs.declared.reading.SummedLine.{SummedLine}
use Rattle.ledger_lines.specs.Lines.{IsLine, IsLineOf}
use Rattle.std.proofs.Common.{subst}

pub serial_of_line : (octets : List ℕ) (read : SummedLine) (e : Entry) → IsLine octets read → read.line ≡ enters e → e.serial < 2 ^ 63
serial_of_line octets read e line is = let its : IsLineOf line.value (enters e) = subst (λ (l : Line). IsLineOf line.value l) is line.is in its.serial.below
