use Rattle.std.proofs.Common.{◌∷◌, take}
use Rattle.json.specs.Token.{begin_array}
use Rattle.ledger_lines.specs.Written.{count_value}
use Rattle.json_objects.specs.Adding.{Adds}
use Rattle.json_objects.proofs.Adding.{each_tokens}
use Rattle.ledger_lines.proofs.end.lane_counts.Given as goal

abbrev pub invariant-loop-lane : goal.invariant-loop-lane
invariant-loop-lane l = Adds l.fn.writer l.writer (begin_array ∷ each_tokens count_value (take l.lane-index l.lanes))
