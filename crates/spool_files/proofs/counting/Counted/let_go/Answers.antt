use Rattle.std.proofs.Common.{[], ap, rules}
use Rattle.spool_files.specs.Counting.{request_entries, answer_entries}
use Rattle.spool_files.proofs.counting.Counted.let_go.Goals as goal

pub returns : goal.returns
returns c = λ now span done later counts. record {
  known = counts.known;
  requests = ap request_entries {y = []} (search rules);
  answers = ap answer_entries {y = []} (search rules);
}
