use Rattle.std.proofs.Common.{subst, sym}
use Rattle.std.proofs.lemmas.Result.{IfOk-weaker}
use Rattle.json_objects.specs.Written.{HasFrontBehind}
use Rattle.ledger_lines.specs.Written.{begin_value}
use Rattle.ledger_writer.specs.RunLines.{AreStarts, BeginsBehind}
use Rattle.ledger_writer.proofs.lines.begin_line.Goals as goal

pub returns-clause-begin : goal.returns-clause-begin
returns-clause-begin c =
    let its_line = c.begin_of-begin.result in
    IfOk-weaker c.write_begin.result
    (λ all. HasFrontBehind c.args.out.items all.items (begin_value its_line))
    (λ all. BeginsBehind c.args.names.now c.args.start c.args.progress.now c.args.out.items all.items)
    (λ all value. record {
      line = its_line;
      run = c.begin_of-begin.ensures.run;
      file = c.begin_of-begin.ensures.file;
      whole = c.begin_of-begin.ensures.whole;
      before_is = c.begin_of-begin.ensures.before;
      lanes = subst (AreStarts c.args.names.now.homes.items c.args.start.is_gone c.args.progress.now) (sym c.begin_of-begin.ensures.lanes) c.in_ok-lanes.ensures;
      its_value = value;
    })
    c.write_begin.ensures.value
