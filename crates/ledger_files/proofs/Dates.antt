-- The day of the calendar, by years that begin on March 1.
use Rattle.std.proofs.Common.{◌≡◌, ℕ, zero, suc, ◌+◌, ◌-◌, ◌*◌, ◌/◌, ◌%◌, ◌<◌, ◌≤◌, min, ◌⊎◌, ⊎_elim, inl, inr, sym, subst, arith}
use Rattle.ledger_files.specs.Calendar.{leap_day, days_before_year, month_lengths, sum_of_first, number_at, IsDateOf}
use Rattle.ledger_files.proofs.Orders.{below_or_not}
use Rattle.ledger_files.proofs.Years.{leap_days_step, days_before, days_before_1970}

-- How the days since 0000-03-01 are told apart into 400, 100 and four years, one year, and days.
pub record IsSplit (days cycle century four year rest : ℕ) : Type 0 where
  pub whole : days ≡ 146097 * cycle + 36524 * century + 1461 * four + 365 * year + rest
  pub most_centuries : century ≤ 3
  pub most_fours : four ≤ 24
  pub most_years : year ≤ 3
  pub most_days : rest ≤ 365
  pub short_year : year < 3 → rest < 365
  pub short_century : century < 3 → 1461 * four + 365 * year + rest < 36524

-- The year that began on March 1 has `rest` days behind it.
pub march_first : (days cycle century four year rest : ℕ) → IsSplit days cycle century four year rest
    → let n = 400 * cycle + 100 * century + 4 * four + year in days_before_year (suc n) + rest ≡ days + 366
march_first days cycle century four year rest s =
    let n : ℕ = 400 * cycle + 100 * century + 4 * four + year in
    let by_4 : n / 4 ≡ 100 * cycle + 25 * century + four = omega arith in
    let by_100 : n / 100 ≡ 4 * cycle + century = omega arith in
    let by_400 : n / 400 ≡ cycle = omega arith in
    omega (arith, days_before n)

whole_year : (year rest : ℕ) → (year < 3 → rest < 365) → year ≤ 3 → rest ≡ 365 → year ≡ 3
whole_year year rest short most e = ⊎_elim (λ (l : year < 3). let k : rest < 365 = short l in absurd (omega arith)) (λ (l : 3 ≤ year). omega arith) (below_or_not year 3)

whole_century : (century four : ℕ) → (century < 3 → 1461 * four + 1460 < 36524) → century ≤ 3 → 24 ≤ four → century ≡ 3
whole_century century four short most l = ⊎_elim (λ (low : century < 3). let k : 1461 * four + 1460 < 36524 = short low in absurd (omega arith)) (λ (high : 3 ≤ century). omega arith) (below_or_not century 3)

-- Its last day is a leap day.
pub last_is_leap : (days cycle century four year rest : ℕ) → IsSplit days cycle century four year rest → rest ≡ 365
    → leap_day (suc (400 * cycle + 100 * century + 4 * four + year)) ≡ 1
last_is_leap days cycle century four year rest s e =
    let n : ℕ = 400 * cycle + 100 * century + 4 * four + year in
    let by_4 : n / 4 ≡ 100 * cycle + 25 * century + four = omega arith in
    let by_100 : n / 100 ≡ 4 * cycle + century = omega arith in
    let by_400 : n / 400 ≡ cycle = omega arith in
    let three : year ≡ 3 = whole_year year rest s.short_year s.most_years e in
    let short : century < 3 → 1461 * four + 1460 < 36524 = λ l. let k : 1461 * four + 365 * year + rest < 36524 = s.short_century l in omega arith in
    ⊎_elim
    (λ (l : four < 24).
    let next_by_4 : suc n / 4 ≡ 100 * cycle + 25 * century + four + 1 = omega arith in
    let next_by_100 : suc n / 100 ≡ 4 * cycle + century = omega arith in
    let next_by_400 : suc n / 400 ≡ cycle = omega arith in
    omega (arith, leap_days_step n))
    (λ (l : 24 ≤ four).
    let k : century ≡ 3 = whole_century century four short s.most_centuries l in
    let next_by_4 : suc n / 4 ≡ 100 * cycle + 100 = omega (arith, s.most_fours) in
    let next_by_100 : suc n / 100 ≡ 4 * cycle + 4 = omega (arith, s.most_fours) in
    let next_by_400 : suc n / 400 ≡ cycle + 1 = omega (arith, s.most_fours) in
    omega (arith, leap_days_step n))
    (below_or_not four 24)

-- From March to December.
abbrev AsLate : ℕ → ℕ → ℕ → ℕ → Type 0
AsLate days year rest place = place ≡ (5 * rest + 2) / 153
    → IsDateOf days (record { year = year; month = place + 3; day = rest - (153 * place + 2) / 5 + 1 })

below_ten : (P : ℕ → Type 0) → P 0 → P 1 → P 2 → P 3 → P 4 → P 5 → P 6 → P 7 → P 8 → P 9 → (n : ℕ) → n < 10 → P n
below_ten P p0 p1 p2 p3 p4 p5 p6 p7 p8 p9 zero l = p0
below_ten P p0 p1 p2 p3 p4 p5 p6 p7 p8 p9 (suc zero) l = p1
below_ten P p0 p1 p2 p3 p4 p5 p6 p7 p8 p9 (suc (suc zero)) l = p2
below_ten P p0 p1 p2 p3 p4 p5 p6 p7 p8 p9 (suc (suc (suc zero))) l = p3
below_ten P p0 p1 p2 p3 p4 p5 p6 p7 p8 p9 (suc (suc (suc (suc zero)))) l = p4
below_ten P p0 p1 p2 p3 p4 p5 p6 p7 p8 p9 (suc (suc (suc (suc (suc zero))))) l = p5
below_ten P p0 p1 p2 p3 p4 p5 p6 p7 p8 p9 (suc (suc (suc (suc (suc (suc zero)))))) l = p6
below_ten P p0 p1 p2 p3 p4 p5 p6 p7 p8 p9 (suc (suc (suc (suc (suc (suc (suc zero))))))) l = p7
below_ten P p0 p1 p2 p3 p4 p5 p6 p7 p8 p9 (suc (suc (suc (suc (suc (suc (suc (suc zero)))))))) l = p8
below_ten P p0 p1 p2 p3 p4 p5 p6 p7 p8 p9 (suc (suc (suc (suc (suc (suc (suc (suc (suc zero))))))))) l = p9
below_ten P p0 p1 p2 p3 p4 p5 p6 p7 p8 p9 (suc (suc (suc (suc (suc (suc (suc (suc (suc (suc n)))))))))) l = absurd (omega arith)

-- How many days of the year are before the month of a place, and how many it has.
abbrev HasDays : ℕ → ℕ → Type 0
HasDays year place =
    (sum_of_first (place + 3 - 1) (month_lengths year) ≡ (153 * place + 2) / 5 + 59 + leap_day year) × (number_at (place + 3 - 1) (month_lengths year) + (153 * place + 2) / 5 ≡ (153 * place + 155) / 5)

has_days : (year place : ℕ) → place < 10 → HasDays year place
has_days year =
    let all : (n : ℕ) → n < 10 → HasDays year n =
    below_ten (HasDays year) (omega arith, omega arith) (omega arith, omega arith) (omega arith, omega arith) (omega arith, omega arith) (omega arith, omega arith)
    (omega arith, omega arith) (omega arith, omega arith) (omega arith, omega arith) (omega arith, omega arith) (omega arith, omega arith) in
    all

pub late : (days year rest place : ℕ) → days_before_year year + leap_day year + rest ≡ days + 719469 → place < 10 → AsLate days year rest place
late days year rest place h l e =
    let has = has_days year place l in
    record { month = (omega arith, omega arith); day = (omega arith, omega arith); counted = omega (arith, days_before_1970) }

-- January and February.
abbrev AsEarly : ℕ → ℕ → ℕ → ℕ → Type 0
AsEarly days year rest place = place ≡ (5 * rest + 2) / 153
    → IsDateOf days (record { year = year; month = place - 9; day = rest - (153 * place + 2) / 5 + 1 })

early_10 : (days year rest : ℕ) → days_before_year year + rest ≡ days + 719834 → AsEarly days year rest 10
early_10 days year rest h e = record { month = (omega arith, omega arith); day = (omega arith, omega arith); counted = omega (arith, days_before_1970) }

february : (rest leap : ℕ) → rest ≤ 365 → (rest ≡ 365 → leap ≡ 1) → rest ≤ 364 + leap
february rest leap most last = ⊎_elim (λ (l : rest < 365). omega arith) (λ (l : 365 ≤ rest). let k : leap ≡ 1 = last (omega arith) in omega arith) (below_or_not rest 365)

early_11 : (days year rest : ℕ) → days_before_year year + rest ≡ days + 719834 → rest ≤ 364 + leap_day year → AsEarly days year rest 11
early_11 days year rest h most e = record { month = (omega arith, omega arith); day = (omega arith, omega arith); counted = omega (arith, days_before_1970) }

ten_or_eleven : (place rest : ℕ) → 10 ≤ place → rest ≤ 365 → place ≡ (5 * rest + 2) / 153 → (place ≡ 10) ⊎ (place ≡ 11)
ten_or_eleven place rest l most e = ⊎_elim (λ (low : place < 11). inl (omega arith)) (λ (high : 11 ≤ place). inr (omega arith)) (below_or_not place 11)

pub early : (days year rest place : ℕ) → days_before_year year + rest ≡ days + 719834 → rest ≤ 365 → (rest ≡ 365 → leap_day year ≡ 1) → 10 ≤ place → AsEarly days year rest place
early days year rest place h most leap l e = ⊎_elim
    (λ (k : place ≡ 10). subst (AsEarly days year rest) (sym k) (early_10 days year rest h) e)
    (λ (k : place ≡ 11). subst (AsEarly days year rest) (sym k) (early_11 days year rest h (february rest (leap_day year) most leap)) e)
    (ten_or_eleven place rest l most e)

-- The year that began on March 1, of what the divisions give.
abbrev pub year_from_march : ℕ → ℕ → ℕ → ℕ
year_from_march days century year = 400 * (days / 146097) + 100 * century + 4 * ((days % 146097 - century * 36524) / 1461) + year

-- What the divisions give is a split.
pub split : (days century year : ℕ) → let in_cycle = days % 146097 in century ≡ min (in_cycle / 36524) 3 → let in_century = in_cycle - century * 36524 in year ≡ min (in_century % 1461 / 365) 3
    → IsSplit days (days / 146097) century (in_century / 1461) year (in_century % 1461 - year * 365)
split days century year ec ey = record {
  whole = omega arith;
  most_centuries = omega arith;
  most_fours = omega arith;
  most_years = omega arith;
  most_days = omega arith;
  short_year = omega arith;
  short_century = omega arith;
}
