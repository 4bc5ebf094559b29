-- How far the wall clock jumped (own).
use Rattle.std.specs.Prelude.{ℕ, ◌+◌, ◌-◌, ◌/◌, ◌%◌, nat_lt, true, false, if◌then◌else◌, List, ◌++◌, codes, Option, Some, None}
use Rattle.std.specs.Fmt.{decimal}
use Rattle.spool_writer.specs.declared.wall_clock.ClockJump.{ClockJump}

-- so many milliseconds in seconds, to the nearest one
abbrev pub nearest_second : ℕ → ℕ
nearest_second ms = ms / 1000 + ms % 1000 / 500

-- The jump of a clock that shows one time where another one was to be expected, if these are more than a span apart.
abbrev pub clock_jump : ℕ → ℕ → ℕ → Option ClockJump
clock_jump expected shown span =
    if nat_lt span (shown - expected) then Some (record { is_ahead = true; seconds = nearest_second (shown - expected) })
    else (if nat_lt span (expected - shown) then Some (record { is_ahead = false; seconds = nearest_second (expected - shown) }) else None)

-- the seconds of a jump, with a sign if the clock was set back
abbrev pub jump_text : ClockJump → List ℕ
jump_text jump = (if jump.is_ahead then codes "" else codes "-") ++ decimal jump.seconds
