use Rattle.std.proofs.Common.{arith}
use Rattle.ledger_rules.proofs.Edges.{merged_rises, merged_same}
use Rattle.ledger_rules.proofs.numbers.merge_lowest.Goals as goal

pub returns-clause-rising : goal.returns-clause-rising
returns-clause-rising c =
    merged_rises c.args.edges.now.items c.requires (omega arith) c.remove.new.self.items c.remove-next.new.self.items c.remove.ensures.items c.remove-next.ensures.items
