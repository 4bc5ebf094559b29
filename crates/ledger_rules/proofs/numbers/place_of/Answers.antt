use Rattle.std.proofs.lemmas.List.Sorted.{searched}
use Rattle.ledger_rules.proofs.Edges.{rises}
use Rattle.ledger_rules.proofs.numbers.place_of.Goals as goal

pub returns : goal.returns
returns c = searched c.args.edges.now c.args.number c.binary_search.result c.binary_search.ensures.position (rises c.args.edges.now c.requires)
