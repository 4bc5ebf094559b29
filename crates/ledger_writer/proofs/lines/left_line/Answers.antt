use Rattle.std.proofs.Common.{option_copied, subst, sym}
use Rattle.std.proofs.lemmas.Result.{IfOk-weaker}
use Rattle.json_objects.specs.Written.{HasFrontBehind}
use Rattle.ledger_lines.specs.Written.{left_value}
use Rattle.ledger_writer.specs.Entries.{HasLeftBehind, IsMomentIfAny, IsMomentText}
use Rattle.ledger_writer.proofs.lines.left_line.Goals as goal

pub returns-clause-value : goal.returns-clause-value
returns-clause-value c =
    IfOk-weaker c.write_left.result
    (λ all. HasFrontBehind c.args.out.items all.items (left_value c.left_of-left.result))
    (λ all. HasLeftBehind c.args.names.now c.args.parcel.now c.args.state c.args.kept c.args.out.items all.items)
    (λ all line. record {
      moment = c.as_str.result.now;
      since = option_copied c.lent.result;
      left = c.left_of-left.result;
      time = subst (IsMomentText c.args.parcel.now.head.time) (sym c.as_str.ensures.value) c.in_ok-time.ensures;
      accepted = subst (IsMomentIfAny c.args.parcel.now.head.handling.accepted) (sym c.lent.ensures) c.in_ok-accepted.ensures;
      is = c.left_of-left.ensures;
      line = line;
    })
    c.write_left.ensures.value
