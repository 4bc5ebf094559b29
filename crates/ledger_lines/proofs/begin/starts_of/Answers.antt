use Rattle.std.proofs.Common.{List, rules}
use Rattle.json.specs.Value.{items_view}
use Rattle.ledger_lines.specs.Lines.{AreEach, Denies, IsLaneStart}
use Rattle.ledger_lines.specs.declared.lane_start.LaneStart.{LaneStart}
use Rattle.ledger_lines.proofs.Lists.{each_next, each_all, each_denied}
use Rattle.ledger_lines.proofs.begin.starts_of.Goals as goal

pub loop-value-preserved : goal.loop-value-preserved
loop-value-preserved c =
    each_next IsLaneStart c.args.values.now c.loop-value.value-index c.value-item.result c.loop-value.starts.items _ _ c.loop-value-test.true c.value-item.is c.loop-value.invariant c.in_ok-start_of.ensures
    c.in_ok-push.ensures.pushed

pub returns-in_err-start_of : goal.returns-in_err-start_of
returns-in_err-start_of c =
    let all : Denies c.in_err-start_of.field-0.0 ((xs : List LaneStart) × AreEach IsLaneStart (items_view c.args.values.now) xs) =
    each_denied IsLaneStart _ c.args.values.now c.loop-value.value-index c.value-item.result c.loop-value-test.true c.value-item.is c.in_err-start_of.ensures in
    search (rules, all)

pub returns : goal.returns
returns c = each_all IsLaneStart c.args.values.now c.loop-value.value-index c.loop-value.starts.items c.loop-value-test.false c.loop-value.invariant
