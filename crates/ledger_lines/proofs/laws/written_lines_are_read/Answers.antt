use Rattle.ledger_lines.proofs.Sums.{answer_count_line, begin_line, end_line, entry_line, left_line, record_count_line, resumed_line}
use Rattle.ledger_lines.proofs.Single.{given_back, one_line, one_line_of}
use Rattle.ledger_lines.proofs.laws.written_lines_are_read.Goals as goal

pub returns : goal.returns
returns c = record {
  begin = begin_line;
  entry = entry_line;
  left = left_line;
  record_count = record_count_line;
  answer_count = answer_count_line;
  resumed = resumed_line;
  end = end_line;
  one_of_value = one_line_of;
  one_of_octets = one_line;
  given_back = given_back;
}
