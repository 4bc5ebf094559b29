use Rattle.std.proofs.Common.{◌≡◌, ℕ, ◌<◌, length, get_or, eqb, true, false, arith}
use Rattle.std.proofs.lemmas.Bool.{eqb-true, eq-eqb}
use Rattle.ledger_rules.proofs.Edges.{first_by, last_by, not_range, range_by}
use Rattle.ledger_rules.proofs.numbers.is_range.Goals as goal

pub returns-then-edges-eq0 : goal.returns-then-edges-eq0
returns-then-edges-eq0 c =
    let es = c.args.edges.now in
    let long : length es ≡ 2 = omega (arith, c.in-2.is) in (
      λ last. range_by es c.requires c.args.count (λ i lt. omega (arith, c.type_inv.edges i)) c.ranges.count.fits long c.if-edges-eq0.true (eqb-true (get_or es 1 0) c.args.count last),
      λ all. eq-eqb (get_or es 1 0) c.args.count (last_by es c.requires c.args.count (λ i lt. omega (arith, c.type_inv.edges i)) c.ranges.count.fits long all),
    )

pub returns-else-edges-eq0 : goal.returns-else-edges-eq0
returns-else-edges-eq0 c =
    let es = c.args.edges.now in
    let long : length es ≡ 2 = omega (arith, c.in-2.is) in (
      λ first. absurd (omega (arith, eqb-true (get_or es 0 0) 0 first, c.if-edges-eq0.false)),
      λ all. eq-eqb (get_or es 0 0) 0 (first_by es c.requires c.args.count (λ i lt. omega (arith, c.type_inv.edges i)) c.ranges.count.fits long all),
    )

pub returns-in_default : goal.returns-in_default
returns-in_default c =
    let es = c.args.edges.now in (
      λ never. absurd (cc),
      λ all. absurd (not_range es c.requires c.args.count (λ i lt. omega (arith, c.type_inv.edges i)) c.ranges.count.fits (λ e. omega (arith, e, c.in_default)) (λ e. omega (arith, e, c.in_default)) all),
    )
