use Rattle.ledger_lines.specs.Lines.{state_text}
use Rattle.ledger_lines.specs.Written.{left_slots}
use Rattle.json_objects.proofs.Adding.{opens_then, closes}
use Rattle.ledger_lines.proofs.Adding.{number_if_is, string_is}
use Rattle.ledger_lines.proofs.left.left_members.Goals as goal

pub returns : goal.returns
returns c =
    let l = c.args.left.now in
    let state = string_is c.state_text.result.now (state_text l.state) c.state_text.ensures c.in_ok-text.ensures in
    let sendings = number_if_is c.widened.result l.sendings c.widened.ensures c.in_ok-number_if_any.ensures in
    let asked = opens_then c.in_ok-lane_members.ensures c.in_ok-request_members.ensures in
    let packet = opens_then (opens_then (opens_then (opens_then asked state) sendings) c.in_ok-text_if_any.ensures) c.in_ok-digits.ensures in
    let all = opens_then packet c.in_ok-true_if.ensures in
    closes c.end_object.result c.args.writer.now c.true_if.new.writer c.end_object.new.self (left_slots l) all c.end_object.ensures
