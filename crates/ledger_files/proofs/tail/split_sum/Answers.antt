use Rattle.std.proofs.Common.{◌++◌, ◌-◌, List, ℕ, length, drop, ap, sym, ◌∙◌, arith}
use Rattle.std.proofs.lemmas.List.{take-append-drop}
use Rattle.ledger_files.proofs.Tails.{tail_there, too_short}
use Rattle.ledger_files.proofs.tail.split_sum.Goals as goal

pub returns-then-line : goal.returns-then-line
returns-then-line c = λ h. omega (arith, too_short c.args.line.now h, c.if-line.true)

pub returns-in-None : goal.returns-in-None
returns-in-None c = λ h.
    c.in-None.ensures h.sum h.long h.octets
    (tail_there c.args.line.now c.split_at.result.0.now c.split_at.result.1.now
    (sym (take-append-drop (length c.args.line.now - 74) c.args.line.now)
    ∙ ap (λ (x : List ℕ). x ++ drop (length c.args.line.now - 74) c.args.line.now) (sym c.split_at.ensures.front)
    ∙ ap (λ (x : List ℕ). c.split_at.result.0.now ++ x) (sym c.split_at.ensures.back))
    (omega (arith, c.split_at.ensures.back_len, c.if-line.false)) h)
