use Rattle.ledger_lines.proofs.Lines.{part}
use Rattle.ledger_lines.proofs.begin.begin_of.Goals as goal

pub returns-in_err-run : goal.returns-in_err-run
returns-in_err-run c = part _ _ _ c.from_residual.result c.in_err-run.field-0.0 c.from_residual.ensures.1 c.in_err-run.ensures (λ p. (p.0.run, p.1.run))

pub returns-in_err-time : goal.returns-in_err-time
returns-in_err-time c = part _ _ _ c.from_residual-in_err-time.result c.in_err-time.field-0.0 c.from_residual-in_err-time.ensures.1 c.in_err-time.ensures (λ p. (p.0.time.now, p.1.time))

pub returns-in_err-version : goal.returns-in_err-version
returns-in_err-version c = part _ _ _ c.from_residual-in_err-version.result c.in_err-version.field-0.0 c.from_residual-in_err-version.ensures.1 c.in_err-version.ensures (λ p. (p.0.version.now, p.1.version))

pub returns-in_err-file : goal.returns-in_err-file
returns-in_err-file c = part _ _ _ c.from_residual-in_err-file.result c.in_err-file.field-0.0 c.from_residual-in_err-file.ensures.1 c.in_err-file.ensures (λ p. (p.0.file, p.1.file))

pub returns-in_err-before : goal.returns-in_err-before
returns-in_err-before c = part _ _ _ c.from_residual-in_err-before.result c.in_err-before.field-0.0 c.from_residual-in_err-before.ensures.1 c.in_err-before.ensures (λ p. (p.0.before, p.1.before))

pub returns-in_err-lanes : goal.returns-in_err-lanes
returns-in_err-lanes c = part _ _ _ c.from_residual-in_err-lanes.result c.in_err-lanes.field-0.0 c.from_residual-in_err-lanes.ensures.1 c.in_err-lanes.ensures (λ p. (p.0.lanes.items, p.1.lanes))

pub returns-in_err-hidden : goal.returns-in_err-hidden
returns-in_err-hidden c = part _ _ _ c.from_residual-in_err-hidden.result c.in_err-hidden.field-0.0 c.from_residual-in_err-hidden.ensures.1 c.in_err-hidden.ensures (λ p. (p.0.hidden, p.1.hidden))
