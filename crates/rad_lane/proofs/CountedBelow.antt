-- How many answers to requests below a number are left to count, as a walk through the answers looks at one more.
use Rattle.std.proofs.Common.{◌≡◌, ℕ, suc, ◌+◌, ◌-◌, ◌<◌, ◌≤◌, length, List, get_or, drop, sym, ap, ◌∙◌, arith}
use Rattle.std.specs.Prelude.{nat_lt}
use Rattle.rad_lane.specs.Outstanding.{AnswerKept}
use Rattle.rad_lane.specs.Volumes.{is_below, answers_below}
use Rattle.rad_lane.proofs.ListLemmas.{rest_takes, rest_skips}
use Rattle.rad_lane.proofs.NumberLemmas.{test_since, test_below}

module _ (number : ℕ) (answers : List AnswerKept) (i left : ℕ) (answer : AnswerKept) (within : i < length answers) (at : answer ≡ get_or answers i answer) (counted : left ≡ length (answers_below number (drop i answers))) (own : ℕ) (is : own ≡ answer.stamp.number) where
  counts_one : own < number → left ≡ suc (length (answers_below number (drop (i + 1) answers)))
  counts_one below =
      let passes = ap (λ n. nat_lt n number) (sym is) ∙ test_below own number below in
      counted ∙ ap length (rest_takes (is_below number) answers i answer within at passes)

  -- an answer below the number is one of those that are left
  pub one_left : own < number → 1 ≤ left
  one_left below = let one = counts_one below in omega (arith, one)

  pub one_less : (next : ℕ) → next ≡ left - 1 → own < number → next ≡ length (answers_below number (drop (i + 1) answers))
  one_less next less below = let one = counts_one below in omega (arith, one, less)

  -- an answer that is not below the number leaves as many
  pub none_less : (next : ℕ) → next ≡ left → number ≤ own → next ≡ length (answers_below number (drop (i + 1) answers))
  none_less next same since =
      let fails = ap (λ n. nat_lt n number) (sym is) ∙ test_since own number since in
      same ∙ counted ∙ ap length (rest_skips (is_below number) answers i answer within at fails)
