use Rattle.std.proofs.Common.{[], ◌∷◌, codes, option_map, Option, sym, subst}
use Rattle.std.specs.Prelude.{OnOk}
use Rattle.ledger_lines.specs.Written.{file_value}
use Rattle.ledger_lines.specs.declared.begin.FileBefore.{FileBefore}
use Rattle.json_objects.specs.Adding.{AddsSlots}
use Rattle.json_objects.proofs.Adding.{keyed_last}
use Rattle.ledger_lines.proofs.begin.before_if_any.Goals as goal

pub returns : goal.returns
returns c =
    subst (λ (o : Option FileBefore). OnOk c.file_members.result (AddsSlots c.args.writer.now c.file_members.new.writer ((codes "before", option_map file_value o) ∷ []))) (sym c.in-Some.is)
    (keyed_last c.file_members.result c.args.writer.now c.key.new.self c.file_members.new.writer (codes "before") (file_value c.in-Some.file) c.in_ok-key.ensures.room.0 c.in_ok-key.ensures.ok c.file_members.ensures)
