use Rattle.std.proofs.Common.{ℕ, ◌<◌, get_or, codes, IsTrue}
use Rattle.ledger_lines.specs.Lines.{has_form}
use Rattle.ledger_lines.proofs.values.has_time_form.Given as goal

abbrev pub invariant-loop-place : goal.invariant-loop-place
invariant-loop-place l = (k : ℕ) → k < l.place → IsTrue (has_form (get_or (codes "dddd-dd-ddTdd:dd:dd.dddZ") k 0) (get_or l.octets k 0))
