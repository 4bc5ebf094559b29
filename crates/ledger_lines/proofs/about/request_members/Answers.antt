use Rattle.json_objects.proofs.Adding.{slots_then, slots_last}
use Rattle.ledger_lines.proofs.Adding.{number_is, number_if_is}
use Rattle.ledger_lines.proofs.about.request_members.Goals as goal

pub returns : goal.returns
returns c =
    let a = c.args.about.now in
    let port = number_is c.from.result a.port c.from.ensures c.in_ok-number-2.ensures in
    let identifier = number_is c.from-2.result a.identifier c.from-2.ensures c.in_ok-number-3.ensures in
    let status = number_if_is c.widened.result a.status c.widened.ensures c.in_ok-number_if_any.ensures in
    let named = slots_then (slots_then (slots_then (slots_then c.in_ok-number.ensures c.in_ok-address.ensures) port) identifier) c.in_ok-digits.ensures in
    let told = slots_then (slots_then (slots_then named c.in_ok-words.ensures) c.in_ok-words-2.ensures) status in
    slots_last c.words-3.result c.args.writer.now c.number_if_any.new.writer c.words-3.new.writer _ _ told c.words-3.ensures
