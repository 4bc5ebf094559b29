use Rattle.std.proofs.Common.{None, refl}
use Rattle.std.proofs.lemmas.Result.{IfOk-weaker}
use Rattle.json_objects.specs.Written.{HasFrontBehind}
use Rattle.ledger_lines.specs.Written.{end_value}
use Rattle.ledger_lines.specs.declared.end.End.{End}
use Rattle.ledger_writer.specs.RunLines.{EndsBehind}
use Rattle.ledger_writer.proofs.lines.end_line.Goals as goal

pub returns-clause-end : goal.returns-clause-end
returns-clause-end c =
    let its_line : End = record { run = c.args.names.now.run; time = c.as_str.result; lanes = c.in_ok-lanes.lanes; hidden = None } in
    IfOk-weaker c.write_end.result
    (λ all. HasFrontBehind c.args.out.items all.items (end_value its_line))
    (λ all. EndsBehind c.args.names.now c.args.out.items all.items)
    (λ all value. record { line = its_line; run = refl; whole = refl; lanes = c.in_ok-lanes.ensures; its_value = value })
    c.write_end.ensures.value
