-- What a replay returns at its end (own).
use Rattle.std.specs.Prelude.{ℕ}
use Rattle.rad_console.specs.Closing.{IsEndOf}
use Rattle.rad_console.specs.declared.lines.EndLine.{EndLine}

-- What is left of some number of lanes.
abbrev pub IsEnd : EndLine → Type 0
IsEnd end = (lanes : ℕ) × IsEndOf lanes end
