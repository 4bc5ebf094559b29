use Rattle.std.proofs.Common.{take}
use Rattle.json.specs.Value.{items_view}
use Rattle.ledger_lines.specs.Lines.{AreEach, IsLaneCount}
use Rattle.ledger_lines.proofs.end.counts_of.Given as goal

abbrev pub invariant-loop-value : goal.invariant-loop-value
invariant-loop-value l = AreEach IsLaneCount (items_view (take l.value-index l.values)) l.counts.items
