use Rattle.std.specs.Int.{w64, to_be_bytes}
use Rattle.json_objects.proofs.Adding.{opened, opens_then, opens_last}
use Rattle.ledger_lines.proofs.Adding.{octets_are}
use Rattle.ledger_lines.proofs.writing.first_members.Goals as goal

pub returns : goal.returns
returns c =
    let first = opened c.args.writer.now c.begin_object.new.self c.in_ok-begin_object.ensures.room.0 c.in_ok-begin_object.ensures.ok in
    let run = octets_are c.to_be_bytes.result (to_be_bytes w64 c.args.run) c.to_be_bytes.ensures c.in_ok-digits.ensures in
    opens_last c.text-2.result c.args.writer.now c.digits.new.writer c.text-2.new.writer _ _ (opens_then (opens_then first c.in_ok-text.ensures) run) c.text-2.ensures
