use Rattle.std.proofs.Common.{◌≡◌, ◌↔◌, ℕ, ◌<◌, ◌^◌, ltb, subst}
use Rattle.std.specs.Prelude.{IsTrue}
use Rattle.ledger_rules.specs.Edges.{is_in}
use Rattle.ledger_rules.proofs.Kept.{each_once, range_of_each}
use Rattle.ledger_rules.proofs.numbers.Numbers.are_all_below.Goals as goal

pub returns-then-self-eq0 : goal.returns-then-self-eq0
returns-then-self-eq0 c = λ all keeps.
    let numbers = c.args.self.now in
    let none : numbers.exact_from ≡ 0 = c.if-self-eq0.true in
    let is : IsTrue c.is_range.result ↔ ((n : ℕ) → n < 2 ^ 64 → is_in numbers.edges.items n ≡ ltb n c.args.count) =
    subst (λ es. IsTrue c.is_range.result ↔ ((n : ℕ) → n < 2 ^ 64 → is_in es n ≡ ltb n c.args.count)) c.as_slice.ensures.value c.is_range.ensures in (
      λ range. (none, each_once numbers all keeps none c.args.count c.ranges.count.fits (is.0 range)),
      λ each. is.1 (range_of_each numbers all keeps none c.args.count c.ranges.count.fits each.1),
    )
