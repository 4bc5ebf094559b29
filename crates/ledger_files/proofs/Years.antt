-- How many days there are before a year, in closed form.
use Rattle.std.proofs.Common.{◌≡◌, ℕ, zero, suc, ◌+◌, ◌*◌, ◌/◌, ◌%◌, ◌<◌, ◌==◌, Bool, true, false, not, ◌&&◌, ◌||◌, if◌then◌else◌, refl, sym, subst, arith}
use borrow.Author.Tests.{ne_eqb}
use Rattle.ledger_files.specs.Calendar.{leap_day, days_before_year}

by_test : (x : ℕ) (P : Bool → Type 0) → (x ≡ 0 → P true) → (0 < x → P false) → P (x == 0)
by_test zero P if_zero if_not = if_zero refl
by_test (suc x) P if_zero if_not = subst P (sym (ne_eqb (suc x) 0 (λ (e : suc x ≡ 0). omega arith))) (if_not (omega arith))

-- A quotient goes up by one where the remainder is 0.
abbrev Steps : ℕ → ℕ → ℕ → Bool → Type 0
Steps before after rest true = (after ≡ before + 1) × (rest ≡ 0)
Steps before after rest false = (after ≡ before) × (0 < rest)

steps_by_4 : (n : ℕ) → Steps (n / 4) (suc n / 4) (suc n % 4) (suc n % 4 == 0)
steps_by_4 n = by_test (suc n % 4) (Steps (n / 4) (suc n / 4) (suc n % 4)) (λ e. (omega arith, e)) (λ l. (omega arith, l))

steps_by_100 : (n : ℕ) → Steps (n / 100) (suc n / 100) (suc n % 100) (suc n % 100 == 0)
steps_by_100 n = by_test (suc n % 100) (Steps (n / 100) (suc n / 100) (suc n % 100)) (λ e. (omega arith, e)) (λ l. (omega arith, l))

steps_by_400 : (n : ℕ) → Steps (n / 400) (suc n / 400) (suc n % 400) (suc n % 400 == 0)
steps_by_400 n = by_test (suc n % 400) (Steps (n / 400) (suc n / 400) (suc n % 400)) (λ e. (omega arith, e)) (λ l. (omega arith, l))

abbrev leap_if : Bool → Bool → Bool → ℕ
leap_if a b c = if a && (not b || c) then 1 else 0

together : (q q' c c' f f' r4 r100 r400 : ℕ) (a b d : Bool) → Steps q q' r4 a → Steps c c' r100 b → Steps f f' r400 d → (r400 ≡ 0 → r100 ≡ 0) → (r100 ≡ 0 → r4 ≡ 0) → leap_if a b d + q + f + c' ≡ q' + f' + c
together q q' c c' f f' r4 r100 r400 true true true s4 s100 s400 h g = omega arith
together q q' c c' f f' r4 r100 r400 true true false s4 s100 s400 h g = omega arith
together q q' c c' f f' r4 r100 r400 true false true s4 s100 s400 h g = omega arith
together q q' c c' f f' r4 r100 r400 true false false s4 s100 s400 h g = omega arith
together q q' c c' f f' r4 r100 r400 false true true s4 s100 s400 h g = omega arith
together q q' c c' f f' r4 r100 r400 false true false s4 s100 s400 h g = omega arith
together q q' c c' f f' r4 r100 r400 false false true s4 s100 s400 h g = omega arith
together q q' c c' f f' r4 r100 r400 false false false s4 s100 s400 h g = omega arith

-- A leap day for each fourth year, but none for each hundredth, but one for each four hundredth.
pub leap_days_step : (n : ℕ) → leap_day (suc n) + n / 4 + n / 400 + suc n / 100 ≡ suc n / 4 + suc n / 400 + n / 100
unfolding leap_day
leap_days_step n =
    together (n / 4) (suc n / 4) (n / 100) (suc n / 100) (n / 400) (suc n / 400) (suc n % 4) (suc n % 100) (suc n % 400)
    (suc n % 4 == 0) (suc n % 100 == 0) (suc n % 400 == 0) (steps_by_4 n) (steps_by_100 n) (steps_by_400 n)
    (λ e. omega arith) (λ e. omega arith)

pub next_year : (n : ℕ) → days_before_year (suc n) ≡ days_before_year n + 365 + leap_day n
unfolding days_before_year
next_year n = refl

first_year : days_before_year 1 ≡ 366
unfolding days_before_year leap_day
first_year = refl

pub days_before : (n : ℕ) → days_before_year (suc n) + n / 100 ≡ 365 * n + 366 + n / 4 + n / 400
days_before zero = omega (arith, first_year)
days_before (suc n) = omega (arith, days_before n, next_year (suc n), leap_days_step n)

pub days_before_1970 : days_before_year 1970 ≡ 719528
days_before_1970 = omega (arith, days_before 1969)
