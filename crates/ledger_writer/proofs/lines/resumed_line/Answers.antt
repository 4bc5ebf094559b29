use Rattle.std.proofs.Common.{subst, sym}
use Rattle.std.proofs.lemmas.Result.{IfOk-weaker}
use Rattle.json_objects.specs.Written.{HasFrontBehind}
use Rattle.ledger_lines.specs.Written.{resumed_value}
use Rattle.ledger_writer.specs.Entries.{HasResumedBehind, IsMomentText}
use Rattle.ledger_writer.proofs.lines.resumed_line.Goals as goal

pub returns-clause-value : goal.returns-clause-value
returns-clause-value c =
    IfOk-weaker c.write_resumed.result
    (λ all. HasFrontBehind c.args.out.items all.items (resumed_value c.resumed_told_of-told.result))
    (λ all. HasResumedBehind c.args.names.now c.args.head.now c.args.first c.args.out.items all.items)
    (λ all line. record {
      moment = c.as_str.result.now;
      told = c.resumed_told_of-told.result;
      time = subst (IsMomentText c.args.head.now.time) (sym c.as_str.ensures.value) c.in_ok-time.ensures;
      is = c.resumed_told_of-told.ensures;
      line = line;
    })
    c.write_resumed.ensures.value
