-- The values of samples: counts, and times in seconds with three or six decimals (own).
use Rattle.std.specs.Prelude.{ℕ, ◌/◌, ◌%◌, Bool, if◌then◌else◌, List, ◌++◌, codes}
use Rattle.std.specs.Fmt.{decimal}
use Rattle.rad_metrics.specs.declared.value.Value.{Value}
use Rattle.rad_metrics.specs.declared.value.Value.TheVariants.{Count, Milliseconds, Microseconds}

abbrev pub value_of_bool : Bool → Value
value_of_bool is_so = if is_so then Count 1 else Count 0

-- The three digits of a number below 1000.
abbrev pub digits_text : ℕ → List ℕ
digits_text n = decimal (n / 100) ++ decimal (n / 10 % 10) ++ decimal (n % 10)

abbrev pub seconds_text : ℕ → List ℕ
seconds_text ms = decimal (ms / 1000) ++ codes "." ++ digits_text (ms % 1000)

abbrev pub value_text : Value → List ℕ
value_text (Count count) = decimal count
value_text (Milliseconds ms) = seconds_text ms
value_text (Microseconds us) = seconds_text (us / 1000) ++ digits_text (us % 1000)
