use Rattle.json.specs.Value.{value_view}
use Rattle.ledger_lines.proofs.Lines.{part}
use Rattle.ledger_lines.proofs.Types.{type_of, entry_in, left_in, begin_in, end_in, hidden_in, unsent_in, resumed_in, other_denied}
use Rattle.ledger_lines.proofs.reading.line_of.Goals as goal

pub returns-in_err-text_at : goal.returns-in_err-text_at
returns-in_err-text_at c = part _ _ _ c.from_residual.result c.in_err-text_at.field-0.0 c.from_residual.ensures.1 c.in_err-text_at.ensures (type_of (value_view c.args.value.now))

pub returns-in_err-entry_of-in-entry : goal.returns-in_err-entry_of-in-entry
returns-in_err-entry_of-in-entry c =
    let gone = c.from_residual-in_err-entry_of-in-entry in
    part _ _ _ gone.result c.in_err-entry_of-in-entry.field-0.0 gone.ensures.1 c.in_err-entry_of-in-entry.ensures (entry_in (value_view c.args.value.now) (rw c.in-entry.is at c.in_ok-text_at.ensures))

pub returns-in_err-left_of-in-left : goal.returns-in_err-left_of-in-left
returns-in_err-left_of-in-left c =
    let gone = c.from_residual-in_err-left_of-in-left in
    part _ _ _ gone.result c.in_err-left_of-in-left.field-0.0 gone.ensures.1 c.in_err-left_of-in-left.ensures (left_in (value_view c.args.value.now) (rw c.in-left.is at c.in_ok-text_at.ensures))

pub returns-in_err-begin_of-in-begin : goal.returns-in_err-begin_of-in-begin
returns-in_err-begin_of-in-begin c =
    let gone = c.from_residual-in_err-begin_of-in-begin in
    part _ _ _ gone.result c.in_err-begin_of-in-begin.field-0.0 gone.ensures.1 c.in_err-begin_of-in-begin.ensures (begin_in (value_view c.args.value.now) (rw c.in-begin.is at c.in_ok-text_at.ensures))

pub returns-in_err-end_of-in-end : goal.returns-in_err-end_of-in-end
returns-in_err-end_of-in-end c =
    let gone = c.from_residual-in_err-end_of-in-end in
    part _ _ _ gone.result c.in_err-end_of-in-end.field-0.0 gone.ensures.1 c.in_err-end_of-in-end.ensures (end_in (value_view c.args.value.now) (rw c.in-end.is at c.in_ok-text_at.ensures))

pub returns-in_err-hidden_of-in-hidden : goal.returns-in_err-hidden_of-in-hidden
returns-in_err-hidden_of-in-hidden c =
    let gone = c.from_residual-in_err-hidden_of-in-hidden in
    part _ _ _ gone.result c.in_err-hidden_of-in-hidden.field-0.0 gone.ensures.1 c.in_err-hidden_of-in-hidden.ensures (hidden_in (value_view c.args.value.now) (rw c.in-hidden.is at c.in_ok-text_at.ensures))

pub returns-in_err-record_count_of-in-unsent : goal.returns-in_err-record_count_of-in-unsent
returns-in_err-record_count_of-in-unsent c =
    let gone = c.from_residual-in_err-record_count_of-in-unsent in
    part _ _ _ gone.result c.in_err-record_count_of-in-unsent.field-0.0 gone.ensures.1 c.in_err-record_count_of-in-unsent.ensures (unsent_in (value_view c.args.value.now) (rw c.in-unsent.is at c.in_ok-text_at.ensures))

pub returns-in_err-resumed_of-in-resumed : goal.returns-in_err-resumed_of-in-resumed
returns-in_err-resumed_of-in-resumed c =
    let gone = c.from_residual-in_err-resumed_of-in-resumed in
    part _ _ _ gone.result c.in_err-resumed_of-in-resumed.field-0.0 gone.ensures.1 c.in_err-resumed_of-in-resumed.ensures (resumed_in (value_view c.args.value.now) (rw c.in-resumed.is at c.in_ok-text_at.ensures))

pub returns-in_default : goal.returns-in_default
returns-in_default c =
    other_denied (value_view c.args.value.now) c.in_ok-text_at.field-0.now c.in_ok-text_at.ensures c.in_default.not-entry c.in_default.not-left c.in_default.not-begin c.in_default.not-end c.in_default.not-hidden c.in_default.not-unsent c.in_default.not-again c.in_default.not-resumed
