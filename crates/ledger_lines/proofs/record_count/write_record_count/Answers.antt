use Rattle.json_objects.proofs.Behind.{body_written, front_written}
use Rattle.ledger_lines.specs.Written.{record_count_slots}
use Rattle.ledger_lines.proofs.Fine.{fine_record_count}
use Rattle.ledger_lines.proofs.record_count.write_record_count.Goals as goal

pub returns : goal.returns
returns c =
    let its = c.args.count.now in
    let slots = record_count_slots c.args.kind its in
    let value = front_written slots c.args.out.items c.close_body.result.items _ _ c.close_body.ensures c.new-writer.ensures.before c.new-writer.ensures.tokens c.in_ok-count_members.ensures (fine_record_count c.args.kind its) in
    record { body = body_written slots c.args.out.items c.close_body.result.items value; value = value }
