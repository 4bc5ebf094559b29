use Rattle.std.proofs.Common.{List, rules}
use Rattle.json.specs.Value.{items_view}
use Rattle.ledger_lines.specs.Lines.{AreEach, Denies, IsLaneCount}
use Rattle.ledger_lines.specs.declared.end.LaneCount.{LaneCount}
use Rattle.ledger_lines.proofs.Lists.{each_next, each_all, each_denied}
use Rattle.ledger_lines.proofs.end.counts_of.Goals as goal

pub loop-value-preserved : goal.loop-value-preserved
loop-value-preserved c =
    each_next IsLaneCount c.args.values.now c.loop-value.value-index c.value-item.result c.loop-value.counts.items _ _ c.loop-value-test.true c.value-item.is c.loop-value.invariant c.in_ok-count_of.ensures
    c.in_ok-push.ensures.pushed

pub returns-in_err-count_of : goal.returns-in_err-count_of
returns-in_err-count_of c =
    let all : Denies c.in_err-count_of.field-0.0 ((xs : List LaneCount) × AreEach IsLaneCount (items_view c.args.values.now) xs) =
    each_denied IsLaneCount _ c.args.values.now c.loop-value.value-index c.value-item.result c.loop-value-test.true c.value-item.is c.in_err-count_of.ensures in
    search (rules, all)

pub returns : goal.returns
returns c = each_all IsLaneCount c.args.values.now c.loop-value.value-index c.loop-value.counts.items c.loop-value-test.false c.loop-value.invariant
