use Rattle.spool_files.specs.Counting.{is_request, is_answer_within}
use Rattle.spool_files.proofs.CountLemmas.{kept_parts}
use Rattle.spool_files.proofs.counting.what_counts_in_parts.Goals as goal

pub returns-clause-requests : goal.returns-clause-requests
returns-clause-requests c = kept_parts is_request

pub returns-clause-answers : goal.returns-clause-answers
returns-clause-answers c = λ now span. kept_parts (is_answer_within now span)
