use Rattle.std.proofs.Common.{subst}
use Rattle.std.specs.List.{insert}
use Rattle.ledger_rules.specs.Edges.{IsPlace}
use Rattle.ledger_rules.proofs.Edges.{inserted, found_flips, found_rises, lacking_flips, lacking_rises}
use Rattle.ledger_rules.proofs.numbers.flip_from.Goals as goal

pub returns-in-Ok-clause-rising : goal.returns-in-Ok-clause-rising
returns-in-Ok-clause-rising c =
    let es = c.args.edges.now.items in
    let at = subst (IsPlace es c.args.edge) c.in-Ok.is (subst (λ xs. IsPlace xs c.args.edge c.place_of.result) c.as_slice.ensures.value c.place_of.ensures) in
    found_rises es c.requires.rising c.args.edge c.in-Ok.place at c.remove.new.self.items c.remove.ensures.items

pub returns-in-Ok-clause-flipped : goal.returns-in-Ok-clause-flipped
returns-in-Ok-clause-flipped c =
    let es = c.args.edges.now.items in
    let at = subst (IsPlace es c.args.edge) c.in-Ok.is (subst (λ xs. IsPlace xs c.args.edge c.place_of.result) c.as_slice.ensures.value c.place_of.ensures) in
    found_flips es c.requires.rising c.args.edge c.in-Ok.place at c.remove.new.self.items c.remove.ensures.items

pub returns-in-Err-clause-rising : goal.returns-in-Err-clause-rising
returns-in-Err-clause-rising c =
    let es = c.args.edges.now.items in
    let at = subst (IsPlace es c.args.edge) c.in-Err.is (subst (λ xs. IsPlace xs c.args.edge c.place_of.result) c.as_slice.ensures.value c.place_of.ensures) in
    lacking_rises es c.requires.rising c.args.edge c.in-Err.place at c.insert.new.self.items (inserted c.insert.result c.insert.new.self.items (insert c.args.edges.now.items c.in-Err.place c.args.edge) c.args.edges.now.items (c.insert.ensures.succeeds c.requires.room) c.insert.ensures.items)

pub returns-in-Err-clause-flipped : goal.returns-in-Err-clause-flipped
returns-in-Err-clause-flipped c =
    lacking_flips c.args.edges.now.items c.requires.rising c.args.edge c.in-Err.place c.insert.new.self.items (inserted c.insert.result c.insert.new.self.items (insert c.args.edges.now.items c.in-Err.place c.args.edge) c.args.edges.now.items (c.insert.ensures.succeeds c.requires.room) c.insert.ensures.items)
