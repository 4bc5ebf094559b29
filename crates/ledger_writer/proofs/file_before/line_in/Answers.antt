use Rattle.std.proofs.Common.{◌+◌, ◌++◌, List, ℕ, drop, sym, ap, ◌∙◌}
use Rattle.std.proofs.lemmas.List.{take-append-drop}
use Rattle.ledger_writer.proofs.FileEnds.{whole_lines}
use Rattle.ledger_writer.proofs.file_before.line_in.Goals as goal

pub returns-in-Some : goal.returns-in-Some
returns-in-Some c = (
  c.split_at.result.0.now,
  sym (take-append-drop (c.in-Some.end + 1) c.args.lines.now)
      ∙ ap (λ (x : List ℕ). x ++ drop (c.in-Some.end + 1) c.args.lines.now) (sym c.split_at.ensures.front)
      ∙ ap (λ (x : List ℕ). c.split_at.result.0.now ++ x) (sym c.split_at.ensures.back),
)

pub returns-in-None : goal.returns-in-None
returns-in-None c = whole_lines c.args.lines.now c.whole_if.result c.whole_if.ensures
