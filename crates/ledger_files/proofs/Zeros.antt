-- What a hole with a width and the flag 0 writes.
use Rattle.std.proofs.Common.{◌≡◌, ℕ, ◌-◌, ◌^◌, false, List, [], append-nil}
use Rattle.std.proofs.Math.Nat.{sub-zero}
use Rattle.std.specs.Fmt.{padded_integral, format_spec, char_count}
use Rattle.ledger_files.specs.Moments.{with_zeros}

pub zeros : (width : ℕ) (numeral : List ℕ) → padded_integral (format_spec 32 0 4 width (2 ^ 64 - 1)) false [] numeral ≡ with_zeros width numeral
unfolding padded_integral char_count
zeros width numeral = simp (append-nil, sub-zero)
