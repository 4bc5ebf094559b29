-- Sixteen octets are those of two numbers of eight octets.
use Rattle.std.proofs.Common.{◌≡◌, ℕ, List, ◌++◌, length, take, drop, refl, sym, ap, ◌∙◌, arith, length-drop}
use Rattle.std.proofs.lemmas.List.{take-append-drop, length-take-le}
use Rattle.std.proofs.lemmas.Nat.{be_bytes_8}
use Rattle.std.specs.Int.{w64, to_be_bytes, from_be_bytes}
use Rattle.rad_packet.specs.Packet.{AreOctets}
use Rattle.rad_packet.proofs.Parts.{AreOctets-take, AreOctets-drop}

of_halves : (octets : List ℕ) → length octets ≡ 16 → AreOctets octets
    → to_be_bytes w64 (from_be_bytes w64 (take 8 octets)) ++ to_be_bytes w64 (from_be_bytes w64 (drop 8 octets)) ≡ octets
of_halves octets sixteen are =
    ap (λ x. x ++ to_be_bytes w64 (from_be_bytes w64 (drop 8 octets))) (be_bytes_8 (take 8 octets) (from_be_bytes w64 (take 8 octets)) (length-take-le 8 octets (omega arith)) (AreOctets-take 8 octets are) refl)
    ∙ ap (λ x. take 8 octets ++ x) (be_bytes_8 (drop 8 octets) (from_be_bytes w64 (drop 8 octets)) (omega (arith, length-drop 8 octets)) (AreOctets-drop 8 octets are) refl)
    ∙ take-append-drop 8 octets

-- Those with the same two numbers are the same.
pub same_of_halves : (a b : List ℕ) → length a ≡ 16 → length b ≡ 16 → AreOctets a → AreOctets b
    → from_be_bytes w64 (take 8 a) ≡ from_be_bytes w64 (take 8 b) → from_be_bytes w64 (drop 8 a) ≡ from_be_bytes w64 (drop 8 b) → a ≡ b
same_of_halves a b la lb oa ob first last =
    sym (of_halves a la oa)
    ∙ ap (λ n. to_be_bytes w64 n ++ to_be_bytes w64 (from_be_bytes w64 (drop 8 a))) first
    ∙ ap (λ n. to_be_bytes w64 (from_be_bytes w64 (take 8 b)) ++ to_be_bytes w64 n) last
    ∙ of_halves b lb ob
