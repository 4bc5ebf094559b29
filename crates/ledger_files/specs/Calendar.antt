-- The calendar of RFC 3339: the Gregorian one, from the year 0 on.
use Rattle.std.specs.Prelude.{◌≡◌, ℕ, zero, suc, ◌+◌, ◌-◌, ◌%◌, ◌≤◌, ◌==◌, ◌&&◌, ◌||◌, not, List, [], ◌∷◌, if◌then◌else◌}
use Rattle.ledger_files.specs.declared.utc.Date.{Date}

-- A year that 4 divides has a leap day, but of those that 100 divides only the ones that 400 divides.
unfoldable pub leap_day : ℕ → ℕ
leap_day year = if year % 4 == 0 && (not (year % 100 == 0) || year % 400 == 0) then 1 else 0

-- The days of the years before this one.
unfoldable pub days_before_year : ℕ → ℕ
days_before_year zero = 0
days_before_year (suc year) = days_before_year year + 365 + leap_day year

-- The days of each month of a year, from January on.
abbrev pub month_lengths : ℕ → List ℕ
month_lengths year =
    31 ∷ (28 + leap_day year) ∷ 31 ∷ 30 ∷ 31 ∷ 30 ∷ 31 ∷ 31 ∷ 30 ∷ 31 ∷ 30 ∷ 31 ∷ []

-- The sum of the first numbers of a list.
abbrev pub sum_of_first : ℕ → List ℕ → ℕ
sum_of_first zero xs = 0
sum_of_first (suc n) [] = 0
sum_of_first (suc n) (x ∷ xs) = x + sum_of_first n xs

-- The number of this place in a list, counted from 0.
abbrev pub number_at : ℕ → List ℕ → ℕ
number_at n [] = 0
number_at zero (x ∷ xs) = x
number_at (suc n) (x ∷ xs) = number_at n xs

-- How many days there are from 0000-01-01 to this day.
abbrev pub day_number : ℕ → ℕ → ℕ → ℕ
day_number year month day = days_before_year year + sum_of_first (month - 1) (month_lengths year) + (day - 1)

-- This is the day of the calendar that is so many days after 1970-01-01.
pub record IsDateOf (days : ℕ) (date : Date) : Type 0 where
  pub month : (1 ≤ date.month) × (date.month ≤ 12)
  pub day : (1 ≤ date.day) × (date.day ≤ number_at (date.month - 1) (month_lengths date.year))
  pub counted : day_number date.year date.month date.day ≡ day_number 1970 1 1 + days
