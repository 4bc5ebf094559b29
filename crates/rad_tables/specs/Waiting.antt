-- The wait for an answer after a sending. Own.
use Rattle.std.specs.Prelude.{ℕ, ◌*◌, ◌^◌, ◌-◌, min}

-- in milliseconds, after sending number k of a round, counted from 1: the first wait, doubled with each further
-- sending, up to two minutes
abbrev pub wait_of : ℕ → ℕ → ℕ
wait_of first k = min (first * 2 ^ (k - 1)) 120000
