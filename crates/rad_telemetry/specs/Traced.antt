-- What is traced (own).
use Rattle.std.specs.Prelude.{◌≡◌, ℕ, ◌+◌, ◌<◌, ◌≤◌, Bool, false, true, bytes_eq, List, Option, Some, None, option_copied}
use Rattle.rad_telemetry.specs.declared.tracer.LineSecond.{LineSecond}
use Rattle.rad_telemetry.specs.declared.tracer.Subject.{Subject}
use Rattle.rad_telemetry.specs.declared.tracer.Wanted.{Wanted}
use Rattle.rad_telemetry.specs.declared.tracer.Wanted.TheVariants.{User, Session, Client}

-- There is a text, and it is this one.
abbrev pub is_one : Option (List ℕ) → List ℕ → Bool
is_one None text = false
is_one (Some found) text = bytes_eq found text

-- What is wanted is what this is about.
abbrev pub fits : Wanted → Subject → Bool
fits (User name) subject = is_one (option_copied subject.user) name
fits (Session session) subject = is_one (option_copied subject.session) session
fits (Client address) subject = bytes_eq subject.client address

-- Whether a line is logged at a moment, in microseconds: at most 200 are in a second. The first line behind it begins the next one.
pub record TakesLine (old : LineSecond) (now : ℕ) (taken : Bool) (new : LineSecond) : Type 0 where
  pub begins : old.since + 1000000 ≤ now → (taken ≡ true) × (new.since ≡ now) × (new.count ≡ 1)
  pub same : now < old.since + 1000000 → new.since ≡ old.since
  pub more : now < old.since + 1000000 → old.count < 200 → (taken ≡ true) × (new.count ≡ old.count + 1)
  pub full : now < old.since + 1000000 → 200 ≤ old.count → (taken ≡ false) × (new.count ≡ old.count)
