use Rattle.ledger_lines.specs.Written.{count_slots}
use Rattle.json_objects.proofs.Adding.{opened, opens_then, closes}
use Rattle.ledger_lines.proofs.Adding.{number_is}
use Rattle.ledger_lines.proofs.end.lane_count.Goals as goal

pub returns : goal.returns
returns c =
    let first = opened c.args.writer.now c.begin_object.new.self c.in_ok-begin_object.ensures.room.0 c.in_ok-begin_object.ensures.ok in
    let two = opens_then (opens_then first (number_is c.from.result c.args.lane.now.lane c.from.ensures c.in_ok-number.ensures)) c.in_ok-number-2.ensures in
    let all = opens_then (opens_then two c.in_ok-number_if_any.ensures) c.in_ok-number_if_any-2.ensures in
    closes c.end_object.result c.args.writer.now c.number_if_any-2.new.writer c.end_object.new.self (count_slots c.args.lane.now) all c.end_object.ensures
