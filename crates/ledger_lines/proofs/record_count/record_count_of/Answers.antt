use Rattle.ledger_lines.proofs.Lines.{part}
use Rattle.ledger_lines.proofs.record_count.record_count_of.Goals as goal

pub returns-in_err-number : goal.returns-in_err-number
returns-in_err-number c = part _ _ _ c.from_residual-in_err-number.result c.in_err-number.field-0.0 c.from_residual-in_err-number.ensures.1 c.in_err-number.ensures (λ p. (p.0.number, p.1.record_is))
