use Rattle.ledger_lines.specs.Written.{entry_slots}
use Rattle.json_objects.proofs.Adding.{opens_then, closes}
use Rattle.ledger_lines.proofs.Adding.{number_if_is}
use Rattle.ledger_lines.proofs.entry.entry_members.Goals as goal

pub returns : goal.returns
returns c =
    let asked = opens_then (opens_then c.in_ok-lane_members.ensures c.in_ok-number.ensures) c.in_ok-request_members.ensures in
    let packets = opens_then (opens_then (opens_then asked c.in_ok-digits.ensures) c.in_ok-digits-2.ensures) c.in_ok-digits-3.ensures in
    let sendings = number_if_is c.widened.result c.args.entry.now.sendings c.widened.ensures c.in_ok-number_if_any.ensures in
    let all = opens_then (opens_then packets c.in_ok-text_if_any.ensures) sendings in
    closes c.end_object.result c.args.writer.now c.number_if_any.new.writer c.end_object.new.self (entry_slots c.args.entry.now) all c.end_object.ensures
