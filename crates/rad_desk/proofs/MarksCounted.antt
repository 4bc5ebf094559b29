-- How many Proxy-States of this proxy's form there are, attribute by attribute.
use Rattle.std.proofs.Common.{◌≡◌, ℕ, zero, suc, ◌-◌, ◌≤◌, Bool, true, false, cond, List, [], ◌∷◌, length, drop, refl, arith}
use Rattle.std.specs.Prelude.{filter}
use Rattle.rad_packet.specs.Attribute.{Attribute, first_attributes, attributes_of}
use Rattle.rad_desk.specs.Marks.{is_mark, marks_in}

length-first : (n : ℕ) (octets : List ℕ) → length (first_attributes n octets) ≤ n
length-first zero octets = omega arith
length-first (suc n) [] = omega arith
length-first (suc n) (kind ∷ []) = omega arith
length-first (suc n) (kind ∷ len ∷ rest) = let fewer = length-first n (drop (len - 2) rest) in omega (arith, fewer)

length-all : (octets : List ℕ) → length (attributes_of octets) ≤ length octets
unfolding attributes_of
length-all octets = length-first (length octets) octets

length-marks : (attributes : List Attribute) → length (marks_in attributes) ≤ length attributes
length-marks [] = omega arith
length-marks (a ∷ more) = elim (is_mark a) as (λ (b : Bool). length (cond b (a ∷ filter is_mark more) (filter is_mark more)) ≤ suc (length more)) [ true ↦ omega (arith, length-marks more) | false ↦ omega (arith, length-marks more) ]

pub marks_few : (octets : List ℕ) → length (marks_in (attributes_of octets)) ≤ length octets
marks_few octets = omega (arith, length-marks (attributes_of octets), length-all octets)

-- the count one attribute on
module _ (rest rest' : List ℕ) (a : Attribute) (next : attributes_of rest ≡ a ∷ attributes_of rest') where
  pub count_this : is_mark a ≡ true → length (marks_in (attributes_of rest)) ≡ suc (length (marks_in (attributes_of rest')))
  count_this mark = rw (next, mark) refl

  pub count_other : is_mark a ≡ false → length (marks_in (attributes_of rest)) ≡ length (marks_in (attributes_of rest'))
  count_other mark = rw (next, mark) refl
