use Rattle.json_objects.proofs.Behind.{body_written, front_written}
use Rattle.ledger_lines.specs.Written.{entry_slots}
use Rattle.ledger_lines.proofs.Fine.{fine_entry}
use Rattle.ledger_lines.proofs.entry.write_entry.Goals as goal

pub returns : goal.returns
returns c =
    let its = c.args.entry.now in
    let value = front_written (entry_slots its) c.args.out.items c.close_body.result.items _ _ c.close_body.ensures c.new-writer.ensures.before c.new-writer.ensures.tokens c.in_ok-entry_members.ensures (fine_entry its) in
    record { body = body_written (entry_slots its) c.args.out.items c.close_body.result.items value; value = value }
