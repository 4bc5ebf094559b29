use Rattle.std.specs.Prelude.{option_copied}
use Rattle.ledger_lines.proofs.Lines.{part}
use Rattle.ledger_lines.proofs.entry.entry_of.Goals as goal

pub returns-in_err-about : goal.returns-in_err-about
returns-in_err-about c = part _ _ _ c.from_residual.result c.in_err-about.field-0.0 c.from_residual.ensures.1 c.in_err-about.ensures (λ p. (p.0.about, p.1.about))

pub returns-in_err-serial : goal.returns-in_err-serial
returns-in_err-serial c = part _ _ _ c.from_residual-in_err-serial.result c.in_err-serial.field-0.0 c.from_residual-in_err-serial.ensures.1 c.in_err-serial.ensures (λ p. (p.0.serial, p.1.serial))

pub returns-in_err-sent : goal.returns-in_err-sent
returns-in_err-sent c = part _ _ _ c.from_residual-in_err-sent.result c.in_err-sent.field-0.0 c.from_residual-in_err-sent.ensures.1 c.in_err-sent.ensures (λ p. (p.0.sent.now, p.1.sent))

pub returns-in_err-reply : goal.returns-in_err-reply
returns-in_err-reply c = part _ _ _ c.from_residual-in_err-reply.result c.in_err-reply.field-0.0 c.from_residual-in_err-reply.ensures.1 c.in_err-reply.ensures (λ p. (p.0.reply.now, p.1.reply))

pub returns-in_err-response : goal.returns-in_err-response
returns-in_err-response c = part _ _ _ c.from_residual-in_err-response.result c.in_err-response.field-0.0 c.from_residual-in_err-response.ensures.1 c.in_err-response.ensures (λ p. (p.0.response.now, p.1.response))

pub returns-in_err-accepted : goal.returns-in_err-accepted
returns-in_err-accepted c = part _ _ _ c.from_residual-in_err-accepted.result c.in_err-accepted.field-0.0 c.from_residual-in_err-accepted.ensures.1 c.in_err-accepted.ensures (λ p. (option_copied p.0.accepted, p.1.accepted))

pub returns-in_err-sendings : goal.returns-in_err-sendings
returns-in_err-sendings c = part _ _ _ c.from_residual-in_err-sendings.result c.in_err-sendings.field-0.0 c.from_residual-in_err-sendings.ensures.1 c.in_err-sendings.ensures (λ p. (p.0.sendings, p.1.sendings))
