use Rattle.std.proofs.Common.{◌≡◌, codes, Option, Some, None, rules}
use Rattle.json.specs.Value.{value_view}
use Rattle.ledger_lines.specs.Lines.{Lacks}
use Rattle.ledger_lines.proofs.Lines.{part}
use Rattle.ledger_lines.proofs.Types.{again_in, earlier_in}
use Rattle.ledger_lines.proofs.reading.again_of.Goals as goal

pub returns-in_err-answer_count_of : goal.returns-in_err-answer_count_of
returns-in_err-answer_count_of c =
    let without : Lacks (codes "record") (value_view c.args.value.now) = search rules in
    part _ _ _ c.from_residual.result c.in_err-answer_count_of.field-0.0 c.from_residual.ensures.1 c.in_err-answer_count_of.ensures (earlier_in (value_view c.args.value.now) c.requires without)

pub returns-in_err-record_count_of : goal.returns-in_err-record_count_of
returns-in_err-record_count_of c =
    let gone = c.from_residual-in_err-record_count_of in
    let with_record : ¬ Lacks (codes "record") (value_view c.args.value.now) = search rules in
    part _ _ _ gone.result c.in_err-record_count_of.field-0.0 gone.ensures.1 c.in_err-record_count_of.ensures (again_in (value_view c.args.value.now) c.requires with_record)
