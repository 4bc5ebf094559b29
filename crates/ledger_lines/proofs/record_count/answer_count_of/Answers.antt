use Rattle.ledger_lines.proofs.Lines.{part}
use Rattle.ledger_lines.proofs.record_count.answer_count_of.Goals as goal

pub returns-in_err-run : goal.returns-in_err-run
returns-in_err-run c = part _ _ _ c.from_residual.result c.in_err-run.field-0.0 c.from_residual.ensures.1 c.in_err-run.ensures (λ p. (p.0.run, p.1.run))

pub returns-in_err-time : goal.returns-in_err-time
returns-in_err-time c = part _ _ _ c.from_residual-in_err-time.result c.in_err-time.field-0.0 c.from_residual-in_err-time.ensures.1 c.in_err-time.ensures (λ p. (p.0.time.now, p.1.time))

pub returns-in_err-home : goal.returns-in_err-home
returns-in_err-home c = part _ _ _ c.from_residual-in_err-home.result c.in_err-home.field-0.0 c.from_residual-in_err-home.ensures.1 c.in_err-home.ensures (λ p. (p.0.home.now, p.1.home))

pub returns-in_err-lane : goal.returns-in_err-lane
returns-in_err-lane c = part _ _ _ c.from_residual-in_err-lane.result c.in_err-lane.field-0.0 c.from_residual-in_err-lane.ensures.1 c.in_err-lane.ensures (λ p. (p.0.lane, p.1.lane))

pub returns-in_err-answer_run : goal.returns-in_err-answer_run
returns-in_err-answer_run c = part _ _ _ c.from_residual-in_err-answer_run.result c.in_err-answer_run.field-0.0 c.from_residual-in_err-answer_run.ensures.1 c.in_err-answer_run.ensures (λ p. (p.0.answer_run, p.1.answer_run))

pub returns-in_err-answer_lane : goal.returns-in_err-answer_lane
returns-in_err-answer_lane c = part _ _ _ c.from_residual-in_err-answer_lane.result c.in_err-answer_lane.field-0.0 c.from_residual-in_err-answer_lane.ensures.1 c.in_err-answer_lane.ensures (λ p. (p.0.answer_lane, p.1.answer_lane))

pub returns-in_err-answer_serial : goal.returns-in_err-answer_serial
returns-in_err-answer_serial c = part _ _ _ c.from_residual-in_err-answer_serial.result c.in_err-answer_serial.field-0.0 c.from_residual-in_err-answer_serial.ensures.1 c.in_err-answer_serial.ensures (λ p. (p.0.answer_serial, p.1.answer_serial))

pub returns-in_err-count : goal.returns-in_err-count
returns-in_err-count c = part _ _ _ c.from_residual-in_err-count.result c.in_err-count.field-0.0 c.from_residual-in_err-count.ensures.1 c.in_err-count.ensures (λ p. (p.0.count, p.1.count))
