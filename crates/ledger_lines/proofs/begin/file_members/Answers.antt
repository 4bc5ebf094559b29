use Rattle.ledger_lines.specs.Written.{file_slots}
use Rattle.json_objects.proofs.Adding.{opened, opens_then, closes}
use Rattle.ledger_lines.proofs.begin.file_members.Goals as goal

pub returns : goal.returns
returns c =
    let first = opened c.args.writer.now c.begin_object.new.self c.in_ok-begin_object.ensures.room.0 c.in_ok-begin_object.ensures.ok in
    closes c.end_object.result c.args.writer.now c.digits_if_any.new.writer c.end_object.new.self (file_slots c.args.file.now)
    (opens_then (opens_then first c.in_ok-text.ensures) c.in_ok-digits_if_any.ensures) c.end_object.ensures
