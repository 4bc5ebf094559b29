use Rattle.json_objects.proofs.Behind.{body_written, front_written}
use Rattle.ledger_lines.specs.Written.{left_slots}
use Rattle.ledger_lines.proofs.Fine.{fine_left}
use Rattle.ledger_lines.proofs.left.write_left.Goals as goal

pub returns : goal.returns
returns c =
    let its = c.args.left.now in
    let value = front_written (left_slots its) c.args.out.items c.close_body.result.items _ _ c.close_body.ensures c.new-writer.ensures.before c.new-writer.ensures.tokens c.in_ok-left_members.ensures (fine_left its) in
    record { body = body_written (left_slots its) c.args.out.items c.close_body.result.items value; value = value }
