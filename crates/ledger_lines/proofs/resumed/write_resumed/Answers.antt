use Rattle.json_objects.proofs.Behind.{body_written, front_written}
use Rattle.ledger_lines.specs.Written.{resumed_slots}
use Rattle.ledger_lines.proofs.Fine.{fine_resumed}
use Rattle.ledger_lines.proofs.resumed.write_resumed.Goals as goal

pub returns : goal.returns
returns c =
    let its = c.args.resumed.now in
    let value = front_written (resumed_slots its) c.args.out.items c.close_body.result.items _ _ c.close_body.ensures c.new-writer.ensures.before c.new-writer.ensures.tokens c.in_ok-resumed_members.ensures (fine_resumed its) in
    record { body = body_written (resumed_slots its) c.args.out.items c.close_body.result.items value; value = value }
