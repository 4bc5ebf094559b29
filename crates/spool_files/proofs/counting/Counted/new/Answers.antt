use Rattle.std.proofs.Common.{ap}
use Rattle.spool_files.specs.Counting.{request_entries, answer_entries}
use Rattle.spool_files.proofs.CountLemmas.{none_known}
use Rattle.spool_files.proofs.counting.Counted.new.Goals as goal

pub returns : goal.returns
returns c = λ now span. record {
  known = none_known _ c.new-3.ensures;
  requests = ap request_entries c.new.ensures.items;
  answers = ap answer_entries c.new-2.ensures.items;
}
