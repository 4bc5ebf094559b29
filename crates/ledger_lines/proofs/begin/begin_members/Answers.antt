use Rattle.std.proofs.Common.{codes}
use Rattle.ledger_lines.specs.Written.{begin_slots, start_value}
use Rattle.json_objects.proofs.Adding.{listed, opens_then, closes}
use Rattle.ledger_lines.proofs.Adding.{number_if_is}
use Rattle.ledger_lines.proofs.begin.begin_members.Goals as goal

pub returns : goal.returns
returns c =
    let lanes =
    listed start_value c.before_if_any.new.writer c.key.new.self c.lane_starts.new.writer (codes "lanes") c.as_slice.result.now c.args.begin.now.lanes.items c.as_slice.ensures.value
    c.in_ok-key.ensures.room.0 c.in_ok-key.ensures.ok c.in_ok-lane_starts.ensures in
    let hidden = number_if_is c.widened.result c.args.begin.now.hidden c.widened.ensures c.in_ok-number_if_any.ensures in
    let first = opens_then (opens_then c.in_ok-first_members.ensures c.in_ok-text.ensures) c.in_ok-number.ensures in
    closes c.end_object.result c.args.writer.now c.number_if_any.new.writer c.end_object.new.self (begin_slots c.args.begin.now)
    (opens_then (opens_then (opens_then first c.in_ok-before_if_any.ensures) lanes) hidden) c.end_object.ensures
