use Rattle.std.proofs.Common.{◌≡◌, ◌∙◌, ap, arith}
use Rattle.hex.specs.Hex.{hex_digit_value}
use Rattle.ledger_lines.proofs.Worth.{digit_found, no_digit}
use Rattle.ledger_lines.proofs.digits.digit.Goals as goal

pub returns-then-worth-lt16-clause-value : goal.returns-then-worth-lt16-clause-value
returns-then-worth-lt16-clause-value c =
    let same : c.from.result ≡ c.args.octet = omega arith in
    digit_found 256 c.from.result (omega arith) c.if-worth-lt16.true ∙ ap hex_digit_value same

pub returns-else-worth-lt16-clause-value : goal.returns-else-worth-lt16-clause-value
returns-else-worth-lt16-clause-value c =
    let same : c.from.result ≡ c.args.octet = omega arith in
    no_digit 256 c.from.result (omega arith) c.if-worth-lt16.false ∙ ap hex_digit_value same
