use Rattle.json_objects.proofs.Behind.{body_written, front_written}
use Rattle.ledger_lines.specs.Written.{answer_count_slots}
use Rattle.ledger_lines.proofs.Fine.{fine_answer_count}
use Rattle.ledger_lines.proofs.record_count.write_answer_count.Goals as goal

pub returns : goal.returns
returns c =
    let its = c.args.count.now in
    let value = front_written (answer_count_slots its) c.args.out.items c.close_body.result.items _ _ c.close_body.ensures c.new-writer.ensures.before c.new-writer.ensures.tokens c.in_ok-answer_members.ensures (fine_answer_count its) in
    record { body = body_written (answer_count_slots its) c.args.out.items c.close_body.result.items value; value = value }
