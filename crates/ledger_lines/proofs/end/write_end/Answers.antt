use Rattle.json_objects.proofs.Behind.{body_written, front_written}
use Rattle.ledger_lines.specs.Written.{end_slots}
use Rattle.ledger_lines.proofs.Fine.{fine_end}
use Rattle.ledger_lines.proofs.end.write_end.Goals as goal

pub returns : goal.returns
returns c =
    let its = c.args.end.now in
    let value = front_written (end_slots its) c.args.out.items c.close_body.result.items _ _ c.close_body.ensures c.new-writer.ensures.before c.new-writer.ensures.tokens c.in_ok-end_members.ensures (fine_end its) in
    record { body = body_written (end_slots its) c.args.out.items c.close_body.result.items value; value = value }
