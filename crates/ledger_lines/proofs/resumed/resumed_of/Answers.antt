use Rattle.ledger_lines.proofs.Lines.{part}
use Rattle.ledger_lines.proofs.resumed.resumed_of.Goals as goal

pub returns-in_err-run : goal.returns-in_err-run
returns-in_err-run c = part _ _ _ c.from_residual.result c.in_err-run.field-0.0 c.from_residual.ensures.1 c.in_err-run.ensures (λ p. (p.0.run, p.1.run))

pub returns-in_err-time : goal.returns-in_err-time
returns-in_err-time c = part _ _ _ c.from_residual-in_err-time.result c.in_err-time.field-0.0 c.from_residual-in_err-time.ensures.1 c.in_err-time.ensures (λ p. (p.0.time.now, p.1.time))

pub returns-in_err-home : goal.returns-in_err-home
returns-in_err-home c = part _ _ _ c.from_residual-in_err-home.result c.in_err-home.field-0.0 c.from_residual-in_err-home.ensures.1 c.in_err-home.ensures (λ p. (p.0.home.now, p.1.home))

pub returns-in_err-lane : goal.returns-in_err-lane
returns-in_err-lane c = part _ _ _ c.from_residual-in_err-lane.result c.in_err-lane.field-0.0 c.from_residual-in_err-lane.ensures.1 c.in_err-lane.ensures (λ p. (p.0.lane, p.1.lane))

pub returns-in_err-number : goal.returns-in_err-number
returns-in_err-number c = part _ _ _ c.from_residual-in_err-number.result c.in_err-number.field-0.0 c.from_residual-in_err-number.ensures.1 c.in_err-number.ensures (λ p. (p.0.number, p.1.record_is))

pub returns-in_err-first_run : goal.returns-in_err-first_run
returns-in_err-first_run c = part _ _ _ c.from_residual-in_err-first_run.result c.in_err-first_run.field-0.0 c.from_residual-in_err-first_run.ensures.1 c.in_err-first_run.ensures (λ p. (p.0.first_run, p.1.first_run))

pub returns-in_err-first_lane : goal.returns-in_err-first_lane
returns-in_err-first_lane c = part _ _ _ c.from_residual-in_err-first_lane.result c.in_err-first_lane.field-0.0 c.from_residual-in_err-first_lane.ensures.1 c.in_err-first_lane.ensures (λ p. (p.0.first_lane, p.1.first_lane))

pub returns-in_err-first_number : goal.returns-in_err-first_number
returns-in_err-first_number c = part _ _ _ c.from_residual-in_err-first_number.result c.in_err-first_number.field-0.0 c.from_residual-in_err-first_number.ensures.1 c.in_err-first_number.ensures (λ p. (p.0.first_number, p.1.first_record))
