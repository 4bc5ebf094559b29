use Rattle.std.proofs.Common.{take}
use Rattle.json.specs.Value.{items_view}
use Rattle.ledger_lines.specs.Lines.{AreEach, IsLaneStart}
use Rattle.ledger_lines.proofs.begin.starts_of.Given as goal

abbrev pub invariant-loop-value : goal.invariant-loop-value
invariant-loop-value l = AreEach IsLaneStart (items_view (take l.value-index l.values)) l.starts.items
