use Rattle.std.specs.Int.{w64, to_be_bytes}
use Rattle.ledger_lines.specs.Written.{answer_count_slots}
use Rattle.json_objects.proofs.Adding.{opens_then, closes}
use Rattle.ledger_lines.proofs.Adding.{number_is, octets_are}
use Rattle.ledger_lines.proofs.record_count.answer_members.Goals as goal

pub returns : goal.returns
returns c =
    let its = c.args.count.now in
    let home = opens_then c.in_ok-first_members.ensures c.in_ok-text.ensures in
    let lane = opens_then home (number_is c.from.result its.lane c.from.ensures c.in_ok-number.ensures) in
    let run = octets_are c.to_be_bytes.result (to_be_bytes w64 its.answer_run) c.to_be_bytes.ensures c.in_ok-digits.ensures in
    let named = opens_then (opens_then lane run) (number_is c.from-2.result its.answer_lane c.from-2.ensures c.in_ok-number-2.ensures) in
    let all = opens_then (opens_then named c.in_ok-number-3.ensures) c.in_ok-number-4.ensures in
    closes c.end_object.result c.args.writer.now c.number-4.new.writer c.end_object.new.self (answer_count_slots its) all c.end_object.ensures
