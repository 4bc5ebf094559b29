-- The numbers in a moment, as `2026-01-31T23:59:59.999Z` has them (RFC 3339), by the Gregorian calendar.
use Rattle.std.specs.Prelude.{ℕ, ◌+◌, ◌-◌, ◌*◌, ◌%◌, ◌<◌, ◌≤◌, ◌==◌, ◌&&◌, ◌||◌, not, Bool, if◌then◌else◌, List, get_or}

-- The digit at a place, and the number that it and the next one are.
abbrev pub digit_at : List ℕ → ℕ → ℕ
digit_at text place = get_or text place 0 - 48

abbrev pub two_at : List ℕ → ℕ → ℕ
two_at text place = 10 * digit_at text place + digit_at text (place + 1)

abbrev pub year_of : List ℕ → ℕ
year_of text = 100 * two_at text 0 + two_at text 2

-- A year that 4 divides is a leap year, but of those that 100 divides only the ones that 400 divides.
abbrev pub is_leap : ℕ → Bool
is_leap year = year % 4 == 0 && (not (year % 100 == 0) || year % 400 == 0)

-- How many days a month has.
abbrev pub days_of : ℕ → ℕ → ℕ
days_of year month =
    if month == 2 then (if is_leap year then 29 else 28) else (if month == 4 || month == 6 || month == 9 || month == 11 then 30 else 31)

pub record IsDate (year month day : ℕ) : Type 0 where
  pub first_month : 1 ≤ month
  pub last_month : month ≤ 12
  pub first_day : 1 ≤ day
  pub last_day : day ≤ days_of year month

-- The date exists, and the day has this time. A leap second is none.
pub record IsMoment (text : List ℕ) : Type 0 where
  pub date : IsDate (year_of text) (two_at text 5) (two_at text 8)
  pub hour : two_at text 11 < 24
  pub minute : two_at text 14 < 60
  pub second : two_at text 17 < 60

-- All digits of a moment, as one number: it is less where the moment is earlier.
abbrev pub moment_of : List ℕ → ℕ
moment_of text =
    ((((((year_of text * 100 + two_at text 5) * 100 + two_at text 8) * 100 + two_at text 11) * 100 + two_at text 14) * 100 + two_at text 17) * 100
    + two_at text 20) * 10 + digit_at text 22
