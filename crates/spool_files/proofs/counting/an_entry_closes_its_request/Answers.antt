use Rattle.spool_files.specs.Counting.{is_request, is_answer_within}
use Rattle.spool_files.proofs.CountLemmas.{closes_earlier, begun_is_no_request, begun_is_no_answer}
use Rattle.spool_files.proofs.counting.an_entry_closes_its_request.Goals as goal

pub returns-clause-requests : goal.returns-clause-requests
returns-clause-requests c = closes_earlier is_request begun_is_no_request

pub returns-clause-answers : goal.returns-clause-answers
returns-clause-answers c = λ now span. closes_earlier (is_answer_within now span) (begun_is_no_answer now span)
