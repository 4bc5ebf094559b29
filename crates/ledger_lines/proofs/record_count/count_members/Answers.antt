use Rattle.ledger_lines.specs.Written.{kind_name, record_count_slots}
use Rattle.json_objects.proofs.Adding.{opens_then, closes}
use Rattle.ledger_lines.proofs.Adding.{first_is, number_is}
use Rattle.ledger_lines.proofs.record_count.count_members.Goals as goal

pub returns : goal.returns
returns c =
    let its = c.args.count.now in
    let first = first_is its.run c.name_of.result.now (kind_name c.args.kind) c.name_of.ensures c.in_ok-first_members.ensures in
    let home = opens_then first c.in_ok-text.ensures in
    let lane = opens_then home (number_is c.from.result its.lane c.from.ensures c.in_ok-number.ensures) in
    let all = opens_then (opens_then lane c.in_ok-number-2.ensures) c.in_ok-number-3.ensures in
    closes c.end_object.result c.args.writer.now c.number-3.new.writer c.end_object.new.self (record_count_slots c.args.kind its) all c.end_object.ensures
