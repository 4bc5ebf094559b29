use Rattle.std.proofs.Common.{None, get_or}
use Rattle.std.proofs.lemmas.List.{take_more}
use Rattle.ledger_lines.specs.Written.{count_value}
use Rattle.ledger_lines.specs.declared.end.LaneCount.{LaneCount}
use Rattle.json_objects.proofs.Adding.{item_next, items_added}
use Rattle.ledger_lines.proofs.end.lane_counts.Goals as goal

abbrev blank : LaneCount
blank = record { lane = 0; entries = 0; accepted = None; left = None }

pub loop-lane-preserved : goal.loop-lane-preserved
loop-lane-preserved c =
    item_next count_value c.args.writer.now c.loop-lane.writer c.lane_count.new.writer c.args.lanes.now c.loop-lane.lane-index
    (get_or c.args.lanes.now c.loop-lane.lane-index blank) (take_more c.args.lanes.now c.loop-lane.lane-index blank c.loop-lane-test.true) c.loop-lane.invariant c.in_ok-lane_count.ensures

pub returns : goal.returns
returns c = items_added count_value c.end_array.result c.args.writer.now c.loop-lane.writer c.end_array.new.self c.args.lanes.now c.loop-lane.lane-index c.loop-lane-test.false c.loop-lane.invariant c.end_array.ensures
