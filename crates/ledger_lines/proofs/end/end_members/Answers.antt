use Rattle.std.proofs.Common.{codes}
use Rattle.ledger_lines.specs.Written.{count_value, end_slots}
use Rattle.json_objects.proofs.Adding.{listed, opens_then, closes}
use Rattle.ledger_lines.proofs.Adding.{number_if_is}
use Rattle.ledger_lines.proofs.end.end_members.Goals as goal

pub returns : goal.returns
returns c =
    let lanes =
    listed count_value c.first_members.new.writer c.key.new.self c.lane_counts.new.writer (codes "lanes") c.as_slice.result.now c.args.end.now.lanes.items c.as_slice.ensures.value
    c.in_ok-key.ensures.room.0 c.in_ok-key.ensures.ok c.in_ok-lane_counts.ensures in
    let hidden = number_if_is c.widened.result c.args.end.now.hidden c.widened.ensures c.in_ok-number_if_any.ensures in
    closes c.end_object.result c.args.writer.now c.number_if_any.new.writer c.end_object.new.self (end_slots c.args.end.now) (opens_then (opens_then c.in_ok-first_members.ensures lanes) hidden) c.end_object.ensures
