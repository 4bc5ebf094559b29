use Rattle.std.proofs.Common.{option_copied, subst, sym}
use Rattle.std.proofs.lemmas.Result.{IfOk-weaker}
use Rattle.json_objects.specs.Written.{HasFrontBehind}
use Rattle.ledger_lines.specs.Written.{entry_value}
use Rattle.ledger_writer.specs.Entries.{HasEntryBehind, IsMomentIfAny, IsMomentText}
use Rattle.ledger_writer.proofs.lines.entry_line.Goals as goal

pub returns-clause-value : goal.returns-clause-value
returns-clause-value c =
    IfOk-weaker c.write_entry.result
    (λ all. HasFrontBehind c.args.out.items all.items (entry_value c.entry_of-entry.result))
    (λ all. HasEntryBehind c.args.names.now c.args.parcel.now c.args.serial c.args.out.items all.items)
    (λ all line. record {
      moment = c.as_str.result.now;
      since = option_copied c.lent.result;
      entry = c.entry_of-entry.result;
      time = subst (IsMomentText c.args.parcel.now.head.time) (sym c.as_str.ensures.value) c.in_ok-time.ensures;
      accepted = subst (IsMomentIfAny c.args.parcel.now.head.handling.accepted) (sym c.lent.ensures) c.in_ok-accepted.ensures;
      is = c.entry_of-entry.ensures;
      line = line;
    })
    c.write_entry.ensures.value
