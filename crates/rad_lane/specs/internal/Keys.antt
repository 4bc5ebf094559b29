-- The last numbers of a lane's keys, which stand in two tables: those of recent requests, and those of earlier ones
-- (own). A cut removes none of them, so a number below the opening counts as none. No public clause cites this module.
use Rattle.std.specs.Prelude.{◌≡◌, ℕ, ◌<◌, ◌≤◌, ◌⊎◌, ◌++◌, Bool, false, not, nat_lt, Option, Some, None, if◌then◌else◌}
pub use Rattle.std.specs.Option.{option_or}
use Rattle.std.specs.FinMap as map
use Rattle.rad_tables.specs.declared.duplicates.Key.{Key}
use Rattle.rad_tables.specs.Keys.{key_cmp}

-- A number that is not below the opening.
abbrev pub number_since : ℕ → Option ℕ → Option ℕ
number_since opening None = None
number_since opening (Some number) = if nat_lt number opening then None else Some number

abbrev pub is_since : ℕ → Option ℕ → Bool
is_since opening None = false
is_since opening (Some number) = not (nat_lt number opening)

-- All numbers of a table are below this one.
abbrev pub IsBelow : ℕ → map.FinMap key_cmp ℕ → Type 0
IsBelow end numbers = (key : Key) (number : ℕ) → map.get numbers key ≡ Some number → number < end

-- No number of a table is below this one.
abbrev pub IsSince : ℕ → map.FinMap key_cmp ℕ → Type 0
IsSince opening numbers = (key : Key) (number : ℕ) → map.get numbers key ≡ Some number → opening ≤ number

-- What the two tables may hold: numbers below the opening stand in the recent one only as long as the earlier one, all of
-- whose numbers are below `end`, may have one that is not. And `end` is no later than the next number.
pub record AreBounded (opening next : ℕ) (recent : map.FinMap key_cmp ℕ) (end : ℕ) : Type 0 where
  pub held : (opening < end) ⊎ IsSince opening recent
  pub until : end ≤ next

-- Both tables as one: the recent number of a key counts before its earlier one.
abbrev pub both : map.FinMap key_cmp ℕ → map.FinMap key_cmp ℕ → map.FinMap key_cmp ℕ
both recent earlier = map.from_entries (map.entries recent ++ map.entries earlier)

-- The keys of both tables whose number is not below the opening.
unfoldable pub merged : ℕ → map.FinMap key_cmp ℕ → map.FinMap key_cmp ℕ → map.FinMap key_cmp ℕ
merged opening recent earlier = map.retain_keys (both recent earlier) (λ key. is_since opening (map.get (both recent earlier) key))
