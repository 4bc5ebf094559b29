-- Times of a home server's metrics, by the clock that never goes back and by that of the day (own).
use Rattle.std.specs.Prelude.{◌≡◌, ℕ, ◌+◌, ◌-◌, ◌<◌, ◌≤◌, ◌⊎◌, ◌^◌, ◌==◌, if◌then◌else◌, min}
use Rattle.rad_metrics.specs.declared.home_metric.Reading.{Reading}

-- So many milliseconds after the start, in milliseconds since 1970, if a word has room for it.
abbrev pub day_time : ℕ → ℕ → ℕ
day_time started passed = min (started + passed) (2 ^ 64 - 1)

-- The same reading, with its times since 1970 in place of those since the start. That of the last answer is one more there, 0 for none.
pub record IsSince1970 (read : Reading) (started : ℕ) (new : Reading) : Type 0 where
  pub told : new.told ≡ day_time started read.told
  pub since : new.since ≡ day_time started read.since
  pub last_answer : new.last_answer ≡ (if read.last_answer == 0 then 0 else day_time started (read.last_answer - 1))
  pub limits : new.limits ≡ read.limits
  pub standing : new.standing ≡ read.standing
  pub moment : new.moment ≡ read.moment
  pub down : new.down ≡ read.down
  pub sent : new.sent ≡ read.sent
  pub oldest : new.oldest_outstanding ≡ read.oldest_outstanding

-- When the program started by a clock that shows `now` after so long: as before, unless that is more than a second away.
pub record IsStartBy (before now passed start : ℕ) : Type 0 where
  pub near : (now - passed) ≤ before + 1000 → before ≤ (now - passed) + 1000 → start ≡ before
  pub far : (before + 1000 < now - passed) ⊎ (now - passed + 1000 < before) → start ≡ now - passed
