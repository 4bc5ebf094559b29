use Rattle.std.proofs.Common.{◌≡◌, true}
use Rattle.ledger_rules.specs.Numbers.{IsKnown}
use Rattle.ledger_rules.proofs.Kept.{kept_with}
use Rattle.ledger_rules.proofs.numbers.Numbers.insert.Goals as goal

pub returns-clause-kept : goal.returns-clause-kept
returns-clause-kept c = λ all keeps.
    let fresh : ¬ IsKnown c.args.self.now c.args.number = λ known. let yes : c.has.result ≡ true = c.has.ensures.1 known in absurd (cc) in
    kept_with c.args.self.now _ c.add.new.edges.items c.args.number c.ranges.number.fits fresh c.merge_lowest-self.ensures.later c.in_ok-add.ensures.added c.merge_lowest-self.ensures.same all keeps
