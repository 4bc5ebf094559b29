use Rattle.json_objects.proofs.Behind.{body_written, front_written}
use Rattle.ledger_lines.specs.Written.{begin_slots}
use Rattle.ledger_lines.proofs.Fine.{fine_begin}
use Rattle.ledger_lines.proofs.begin.write_begin.Goals as goal

pub returns : goal.returns
returns c =
    let its = c.args.begin.now in
    let value = front_written (begin_slots its) c.args.out.items c.close_body.result.items _ _ c.close_body.ensures c.new-writer.ensures.before c.new-writer.ensures.tokens c.in_ok-begin_members.ensures (fine_begin its) in
    record { body = body_written (begin_slots its) c.args.out.items c.close_body.result.items value; value = value }
