use Rattle.std.proofs.Common.{◌≡◌, ℕ, suc, ◌+◌, refl, arith}
use Rattle.ledger_files.proofs.Years.{next_year}
use Rattle.ledger_files.proofs.Dates.{split, year_from_march, march_first, last_is_leap, late, early}
use Rattle.ledger_files.proofs.utc.date_of.Goals as goal

pub returns-then-place-lt10 : goal.returns-then-place-lt10
returns-then-place-lt10 c =
    let s = split (c.args.days + 719468) c.min-century.result c.min-year.result c.min-century.ensures c.min-year.ensures in
    let first = march_first _ _ _ _ _ _ s in
    late c.args.days _ _ _ (omega (arith, first, next_year (year_from_march (c.args.days + 719468) c.min-century.result c.min-year.result))) c.if-place-lt10.true refl

pub returns-else-place-lt10 : goal.returns-else-place-lt10
returns-else-place-lt10 c =
    let s = split (c.args.days + 719468) c.min-century.result c.min-year.result c.min-century.ensures c.min-year.ensures in
    let n : ℕ = year_from_march (c.args.days + 719468) c.min-century.result c.min-year.result in
    let e : suc n ≡ n + 1 = omega arith in
    let first = rw e at (march_first _ _ _ _ _ _ s) in
    let leap = rw e at (last_is_leap _ _ _ _ _ _ s) in
    early c.args.days (n + 1) _ _ (omega (arith, first)) s.most_days leap c.if-place-lt10.false refl
