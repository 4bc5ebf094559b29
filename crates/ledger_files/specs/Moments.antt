-- Moments of UTC, and how RFC 3339 writes them.
use Rattle.std.specs.Prelude.{◌≡◌, ℕ, ◌+◌, ◌-◌, ◌*◌, ◌<◌, List, ◌++◌, length, replicate, codes}
use Rattle.std.specs.Fmt.{decimal}
use Rattle.ledger_files.specs.Calendar.{IsDateOf}
use Rattle.ledger_files.specs.declared.utc.Date.{Date}
use Rattle.ledger_files.specs.declared.utc.DayTime.{DayTime}
use Rattle.ledger_files.specs.declared.utc.UtcTime.{UtcTime}

-- A time of a day.
pub record IsDayTime (time : DayTime) : Type 0 where
  pub hours : time.hour < 24
  pub minutes : time.minute < 60
  pub seconds : time.second < 60
  pub milliseconds : time.millisecond < 1000

-- How many milliseconds of the day have passed at this time.
abbrev pub passed_at : DayTime → ℕ
passed_at time = ((time.hour * 60 + time.minute) * 60 + time.second) * 1000 + time.millisecond

-- This is the moment that is so many milliseconds after 1970-01-01T00:00:00Z, where a day has 24 hours.
pub record IsTimeOf (milliseconds : ℕ) (moment : UtcTime) : Type 0 where
  pub days : ℕ
  pub date : IsDateOf days moment.date
  pub day_time : IsDayTime moment.time
  pub passed : milliseconds ≡ days * (24 * 60 * 60 * 1000) + passed_at moment.time

-- A numeral with zeros in front of it, where it has fewer digits than this.
abbrev pub with_zeros : ℕ → List ℕ → List ℕ
with_zeros width numeral = replicate (width - length numeral) 48 ++ numeral

-- A date as in 2026-01-31.
abbrev pub date_text : Date → List ℕ
date_text date =
    with_zeros 4 (decimal date.year) ++ (codes "-" ++ (with_zeros 2 (decimal date.month) ++ (codes "-" ++ with_zeros 2 (decimal date.day))))

-- A time as in 23:59:59.999.
abbrev pub day_time_text : DayTime → List ℕ
day_time_text time =
    with_zeros 2 (decimal time.hour) ++ (codes ":" ++ (with_zeros 2 (decimal time.minute) ++ (codes ":"
    ++ (with_zeros 2 (decimal time.second) ++ (codes "." ++ with_zeros 3 (decimal time.millisecond))))))

-- The date, a T, the time, a Z.
abbrev pub moment_text : UtcTime → List ℕ
moment_text moment = date_text moment.date ++ (codes "T" ++ (day_time_text moment.time ++ codes "Z"))
