use Rattle.std.proofs.Common.{ℕ, ◌%◌, eqb, sym, ap, ◌∙◌, subst}
use Rattle.ledger_rules.specs.Edges.{IsPlace}
use Rattle.ledger_rules.proofs.Edges.{found_at, lacking_at}
use Rattle.ledger_rules.proofs.numbers.is_within.Goals.{in-Ok, in-Err}
use Rattle.ledger_rules.proofs.numbers.is_within.Goals as goal

pub returns : goal.returns
returns c =
    let es = c.args.edges.now in
    let n = c.args.number in
    elim c.match-place_of.branch [
      | in-Ok w ↦ ap (λ (k : ℕ). eqb (k % 2) 1) w.not_above-is ∙ sym (found_at es c.requires n w.in-Ok.place (subst (IsPlace es n) w.in-Ok.is c.place_of.ensures))
      | in-Err w ↦ ap (λ (k : ℕ). eqb (k % 2) 1) w.not_above-is ∙ sym (lacking_at es c.requires n w.in-Err.place (subst (IsPlace es n) w.in-Err.is c.place_of.ensures))
    ]
