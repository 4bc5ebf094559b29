use Rattle.std.proofs.Common.{◌∷◌, take}
use Rattle.json.specs.Token.{begin_array}
use Rattle.ledger_lines.specs.Written.{start_value}
use Rattle.json_objects.specs.Adding.{Adds}
use Rattle.json_objects.proofs.Adding.{each_tokens}
use Rattle.ledger_lines.proofs.begin.lane_starts.Given as goal

abbrev pub invariant-loop-lane : goal.invariant-loop-lane
invariant-loop-lane l = Adds l.fn.writer l.writer (begin_array ∷ each_tokens start_value (take l.lane-index l.lanes))
