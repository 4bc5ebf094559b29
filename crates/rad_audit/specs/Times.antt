-- The moments of the entries of a lane (own).
use Rattle.std.specs.Prelude.{ℕ, ◌+◌, ◌-◌, ◌^◌, min, ltb, if◌then◌else◌}

-- How many steps back in time there are with a moment more: one more where it is before the last one.
abbrev pub back_after : ℕ → ℕ → ℕ → ℕ
back_after last moment back = if ltb moment last then min (back + 1) (2 ^ 64 - 1) else back
