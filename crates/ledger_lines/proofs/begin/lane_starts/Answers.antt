use Rattle.json_objects.proofs.Adding.{item_added, items_added}
use Rattle.ledger_lines.specs.Written.{start_value}
use Rattle.ledger_lines.proofs.begin.lane_starts.Goals as goal

pub loop-lane-preserved : goal.loop-lane-preserved
loop-lane-preserved c =
    item_added start_value c.args.writer.now c.loop-lane.writer c.lane_start.new.writer c.args.lanes.now c.loop-lane.lane-index c.lane-item.result c.loop-lane-test.true c.lane-item.is c.loop-lane.invariant c.in_ok-lane_start.ensures

pub returns : goal.returns
returns c = items_added start_value c.end_array.result c.args.writer.now c.loop-lane.writer c.end_array.new.self c.args.lanes.now c.loop-lane.lane-index c.loop-lane-test.false c.loop-lane.invariant c.end_array.ensures
