use Rattle.ledger_lines.specs.Written.{start_slots}
use Rattle.json_objects.proofs.Adding.{opened, opens_then, closes}
use Rattle.ledger_lines.proofs.Adding.{number_is}
use Rattle.ledger_lines.proofs.begin.lane_start.Goals as goal

pub returns : goal.returns
returns c =
    let first = opened c.args.writer.now c.begin_object.new.self c.in_ok-begin_object.ensures.room.0 c.in_ok-begin_object.ensures.ok in
    let lane = number_is c.from.result c.args.lane.now.lane c.from.ensures c.in_ok-number.ensures in
    closes c.end_object.result c.args.writer.now c.number-2.new.writer c.end_object.new.self (start_slots c.args.lane.now)
    (opens_then (opens_then (opens_then first lane) c.in_ok-text.ensures) c.in_ok-number-2.ensures) c.end_object.ensures
