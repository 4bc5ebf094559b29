use Rattle.ledger_writer.proofs.FileEnds.{ends_with_sum}
use Rattle.ledger_writer.proofs.file_before.last_sum.Goals as goal

pub returns : goal.returns
returns c =
    ends_with_sum c.args.octets.now c.split_at.result.0.now c.in_ok-line.ensures.0 c.in_ok-line.line.now c.in_ok-sum.field-0-0.now c.in_ok-sum.sum c.in_ok-end.end
    c.in_ok-end.ensures.there.0 c.in_ok-end.ensures.there.1 c.in_ok-end.ensures.last c.split_at.ensures.front c.in_ok-line.ensures.1 c.in_ok-sum.ensures
