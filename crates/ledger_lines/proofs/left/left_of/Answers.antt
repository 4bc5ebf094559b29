use Rattle.std.specs.Prelude.{option_copied}
use Rattle.ledger_lines.proofs.Lines.{part}
use Rattle.ledger_lines.proofs.left.left_of.Goals as goal

pub returns-in_err-about : goal.returns-in_err-about
returns-in_err-about c = part _ _ _ c.from_residual.result c.in_err-about.field-0.0 c.from_residual.ensures.1 c.in_err-about.ensures (λ p. (p.0.about, p.1.about))

pub returns-in_err-state : goal.returns-in_err-state
returns-in_err-state c = part _ _ _ c.from_residual-in_err-state.result c.in_err-state.field-0.0 c.from_residual-in_err-state.ensures.1 c.in_err-state.ensures (λ p. (p.0.state, p.1.state))

pub returns-in_err-sendings : goal.returns-in_err-sendings
returns-in_err-sendings c = part _ _ _ c.from_residual-in_err-sendings.result c.in_err-sendings.field-0.0 c.from_residual-in_err-sendings.ensures.1 c.in_err-sendings.ensures (λ p. (p.0.sendings, p.1.sendings))

pub returns-in_err-accepted : goal.returns-in_err-accepted
returns-in_err-accepted c = part _ _ _ c.from_residual-in_err-accepted.result c.in_err-accepted.field-0.0 c.from_residual-in_err-accepted.ensures.1 c.in_err-accepted.ensures (λ p. (option_copied p.0.accepted, p.1.accepted))

pub returns-in_err-request : goal.returns-in_err-request
returns-in_err-request c = part _ _ _ c.from_residual-in_err-request.result c.in_err-request.field-0.0 c.from_residual-in_err-request.ensures.1 c.in_err-request.ensures (λ p. (p.0.request.now, p.1.request))

pub returns-in_err-kept : goal.returns-in_err-kept
returns-in_err-kept c = part _ _ _ c.from_residual-in_err-kept.result c.in_err-kept.field-0.0 c.from_residual-in_err-kept.ensures.1 c.in_err-kept.ensures (λ p. (p.0.kept, p.1.kept))
