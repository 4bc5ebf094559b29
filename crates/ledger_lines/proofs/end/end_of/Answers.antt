use Rattle.ledger_lines.proofs.Lines.{part}
use Rattle.ledger_lines.proofs.end.end_of.Goals as goal

pub returns-in_err-hidden : goal.returns-in_err-hidden
returns-in_err-hidden c = part _ _ _ c.from_residual-in_err-hidden.result c.in_err-hidden.field-0.0 c.from_residual-in_err-hidden.ensures.1 c.in_err-hidden.ensures (λ p. (p.0.hidden, p.1.hidden))
