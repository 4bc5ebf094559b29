use Rattle.std.proofs.Common.{List, ℕ, Option, sym, subst}
use Rattle.std.specs.Prelude.{OnOk, option_copied}
use Rattle.std.specs.Borrow.{Bor}
use Rattle.ledger_lines.specs.Written.{words_slots}
use Rattle.json_objects.specs.Adding.{AddsSlots}
use Rattle.ledger_lines.proofs.Adding.{words_digits, words_text}
use Rattle.ledger_lines.proofs.writing.words.Goals as goal

pub returns-in-Ok : goal.returns-in-Ok
returns-in-Ok c =
    subst (λ (o : Option (Bor (List ℕ))). OnOk c.text.result (AddsSlots c.args.writer.now c.text.new.writer (words_slots c.args.key.now c.args.key_of_octets.now (option_copied o)))) (sym c.in-Some.is)
    (words_text c.text.result c.args.writer.now c.text.new.writer c.args.key.now c.args.key_of_octets.now c.in-Some.octets.now c.in-Ok.words.now c.in-Ok.ensures.cases.0 c.in-Ok.ensures.cases.1 c.text.ensures)

pub returns-in-Err : goal.returns-in-Err
returns-in-Err c =
    subst (λ (o : Option (Bor (List ℕ))). OnOk c.digits.result (AddsSlots c.args.writer.now c.digits.new.writer (words_slots c.args.key.now c.args.key_of_octets.now (option_copied o)))) (sym c.in-Some.is)
    (words_digits c.digits.result c.args.writer.now c.digits.new.writer c.args.key.now c.args.key_of_octets.now c.in-Some.octets.now c.in-Err.ensures.cases.0 c.digits.ensures)
