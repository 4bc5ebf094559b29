-- What each octet is worth as a hexadecimal digit, as a list.
use Rattle.std.proofs.Common.{◌≡◌, ℕ, zero, suc, ◌+◌, ◌<◌, ◌≤◌, List, [], ◌∷◌, get_or, Option, Some, None, refl, ap, arith}
use Rattle.hex.specs.Hex.{hex_digit_value}

-- sixteen, where it is no digit
abbrev pub worth_of : Option ℕ → ℕ
worth_of None = 16
worth_of (Some value) = value

-- of so many octets, from the first one on
abbrev pub worths : ℕ → ℕ → List ℕ
worths zero first = []
worths (suc count) first = worth_of (hex_digit_value first) ∷ worths count (suc first)

worth_at : (count first place octet : ℕ) → octet ≡ first + place → place < count → get_or (worths count first) place 0 ≡ worth_of (hex_digit_value octet)
worth_at zero first place octet e lt = absurd (omega arith)
worth_at (suc count) first zero octet e lt =
    let same : first ≡ octet = omega arith in
    ap (λ (k : ℕ). worth_of (hex_digit_value k)) same
worth_at (suc count) first (suc place) octet e lt = worth_at count (suc first) place octet (omega arith) (omega arith)

some_by : (o : Option ℕ) (worth : ℕ) → worth ≡ worth_of o → worth < 16 → Some worth ≡ o
some_by None worth e lt = absurd (omega (arith, e))
some_by (Some value) worth e lt = ap Some e

none_by : (o : Option ℕ) (worth : ℕ) → ((value : ℕ) → o ≡ Some value → value < 16) → worth ≡ worth_of o → 16 ≤ worth → None ≡ o
none_by None worth small e le = refl
none_by (Some value) worth small e le = absurd (omega (arith, e, small value refl))

small : (octet value : ℕ) → hex_digit_value octet ≡ Some value → value < 16
small octet value e = grind (arith)

module _ (count octet : ℕ) (within : octet < count) where
  pub digit_found : get_or (worths count 0) octet 0 < 16 → Some (get_or (worths count 0) octet 0) ≡ hex_digit_value octet
  digit_found = some_by (hex_digit_value octet) (get_or (worths count 0) octet 0) (worth_at count 0 octet octet (omega arith) within)

  pub no_digit : 16 ≤ get_or (worths count 0) octet 0 → None ≡ hex_digit_value octet
  no_digit = none_by (hex_digit_value octet) (get_or (worths count 0) octet 0) (small octet) (worth_at count 0 octet octet (omega arith) within)
