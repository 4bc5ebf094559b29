-- Octets that are written as hexadecimal digits, in lower case.
use Rattle.std.specs.Prelude.{◌≡◌, ℕ, ◌+◌, ◌-◌, ◌*◌, ◌<◌, ◌%◌, Bool, true, ◌&&◌, ◌||◌, nat_le, if◌then◌else◌, ◌⊎◌, List, [], ◌∷◌, length, codes}
use Rattle.std.specs.List.{list_all}
use Rattle.rad_replay.specs.declared.hex.Hex.{Hex}

-- From `0` to `9`.
abbrev pub is_decimal : ℕ → Bool
is_decimal octet = nat_le 48 octet && nat_le octet 57

-- From `a` to `f`.
abbrev pub is_letter : ℕ → Bool
is_letter octet = nat_le 97 octet && nat_le octet 102

abbrev pub is_digit : ℕ → Bool
is_digit octet = is_decimal octet || is_letter octet

-- The value of a digit, and 0 for any other octet.
abbrev pub digit_value : ℕ → ℕ
digit_value octet = if is_decimal octet then octet - 48 else (if is_letter octet then octet - 97 + 10 else 0)

-- The octets that digits write: each two digits write one octet, and the first of them is its higher half.
abbrev pub octets_written : List ℕ → List ℕ
octets_written [] = []
octets_written (digit ∷ []) = []
octets_written (high ∷ low ∷ digits) = (16 * digit_value high + digit_value low) ∷ octets_written digits

-- An even number of digits, at least two.
pub record AreDigits (word : List ℕ) : Type 0 where
  pub some : 0 < length word
  pub even : length word % 2 ≡ 0
  pub digits : list_all is_digit word ≡ true

-- The word writes octets. `-` writes none.
abbrev pub WritesOctets : List ℕ → Type 0
WritesOctets word = (word ≡ codes "-") ⊎ AreDigits word

abbrev pub octets_of : Hex → List ℕ
octets_of hex = octets_written hex.digits.now
