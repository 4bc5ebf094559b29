use Rattle.std.proofs.Common.{◌≡◌, ℕ, List, length, subst}
use Rattle.json.specs.Value.{value_view}
use Rattle.ledger_lines.proofs.Pairs.{DigitsRead}
use Rattle.ledger_lines.proofs.Parts.{no_array, no_name}
use Rattle.ledger_lines.proofs.values.name_at.Goals as goal

pub returns-else-fill : goal.returns-else-fill
returns-else-fill c =
    no_name c.args.key.now (value_view c.args.value.now)
    (no_array c.args.key.now 8 (value_view c.args.value.now) c.in_ok-digits.digits.now c.in_ok-digits.ensures
    (subst (λ (digits : List ℕ). length digits ≡ 16 → ¬ DigitsRead digits) c.as_bytes.ensures.value c.if-fill.ensures))
