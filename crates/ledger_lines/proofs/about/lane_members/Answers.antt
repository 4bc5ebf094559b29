use Rattle.std.proofs.Common.{codes}
use Rattle.json_objects.proofs.Adding.{opens_then, opens_last}
use Rattle.ledger_lines.proofs.Adding.{number_last}
use Rattle.ledger_lines.proofs.about.lane_members.Goals as goal

pub returns : goal.returns
returns c =
    opens_last c.number.result c.args.writer.now c.text.new.writer c.number.new.writer _ _ (opens_then c.in_ok-first_members.ensures c.in_ok-text.ensures)
    (number_last c.number.result c.text.new.writer c.number.new.writer (codes "lane") c.from.result c.args.about.now.lane c.from.ensures c.number.ensures)
