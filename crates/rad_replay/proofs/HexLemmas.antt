-- The octets that hexadecimal digits write, one by one.
use Rattle.std.proofs.Common.{◌≡◌, ℕ, ◌+◌, ◌*◌, ◌/◌, ◌<◌, List, [], ◌∷◌, length, suc, zero, get_or, refl, add-one, arith}
use Rattle.rad_replay.specs.Hex.{digit_value, octets_written}

pub written_count : (digits : List ℕ) → length (octets_written digits) ≡ length digits / 2
written_count [] = refl
written_count (digit ∷ []) = refl
written_count (high ∷ low ∷ digits) = omega (arith, written_count digits)

-- the octet of an index, by the place of its first digit
octet_at_place : (digits : List ℕ) (index place : ℕ) → place ≡ 2 * index → suc place < length digits
    → get_or (octets_written digits) index 0 ≡ 16 * digit_value (get_or digits place 0) + digit_value (get_or digits (suc place) 0)
octet_at_place [] index place at within = absurd (omega arith)
octet_at_place (digit ∷ []) index place at within = absurd (omega arith)
octet_at_place (high ∷ low ∷ digits) zero zero at within = refl
octet_at_place (high ∷ low ∷ digits) zero (suc place) at within = absurd (omega arith)
octet_at_place (high ∷ low ∷ digits) (suc index) zero at within = absurd (omega arith)
octet_at_place (high ∷ low ∷ digits) (suc index) (suc zero) at within = absurd (omega arith)
octet_at_place (high ∷ low ∷ digits) (suc index) (suc (suc place)) at within =
    octet_at_place digits index place (omega arith) (omega arith)

pub written_octet : (digits : List ℕ) (index : ℕ) → 2 * index + 1 < length digits
    → get_or (octets_written digits) index 0
    ≡ 16 * digit_value (get_or digits (2 * index) 0) + digit_value (get_or digits (2 * index + 1) 0)
written_octet digits index within = rw add-one (octet_at_place digits index (2 * index) refl (omega arith))
