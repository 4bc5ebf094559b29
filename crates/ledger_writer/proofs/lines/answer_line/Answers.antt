use Rattle.std.proofs.Common.{subst, sym}
use Rattle.std.proofs.lemmas.Result.{IfOk-weaker}
use Rattle.json_objects.specs.Written.{HasFrontBehind}
use Rattle.ledger_lines.specs.Written.{answer_count_value}
use Rattle.ledger_writer.specs.Entries.{HasAnswerCountBehind, IsMomentText}
use Rattle.ledger_writer.proofs.lines.answer_line.Goals as goal

pub returns-clause-value : goal.returns-clause-value
returns-clause-value c =
    IfOk-weaker c.write_answer_count.result
    (λ all. HasFrontBehind c.args.out.items all.items (answer_count_value c.answer_told_of-told.result))
    (λ all. HasAnswerCountBehind c.args.names.now c.args.head.now c.args.answer c.args.count c.args.out.items all.items)
    (λ all line. record {
      moment = c.as_str.result.now;
      told = c.answer_told_of-told.result;
      time = subst (IsMomentText c.args.head.now.time) (sym c.as_str.ensures.value) c.in_ok-time.ensures;
      is = c.answer_told_of-told.ensures;
      line = line;
    })
    c.write_answer_count.ensures.value
