-- Names that are among others.
use Rattle.std.proofs.Common.{◌≡◌, ℕ, ◌==◌, ◌||◌, true, List, [], ◌∷◌, map, String, Global, string_bytes, Option, Some, option_map, refl, sym, ap, ◌∙◌, arith}
use Rattle.std.proofs.lemmas.Bool.{and_parts}
use Rattle.std.proofs.lemmas.Bool.Decides.{nat_tests}
use Rattle.std.specs.Borrow.{Bor}
use Rattle.std.specs.List.{list_any, slice_get}
use Rattle.std.specs.Str.{bytes_eq}
use Rattle.rad_advice.specs.Keys.{is_one_of}

pub among_bytes : (names : List (Bor (List ℕ))) (name : List ℕ) → list_any (λ n. bytes_eq n.now name) names ≡ is_one_of (map (λ n. n.now) names) name
among_bytes [] name = refl
among_bytes (n ∷ ns) name = ap (λ b. bytes_eq n.now name || b) (among_bytes ns name)

-- texts that are compared as one are one
pub bytes_same : (xs ys : List ℕ) → bytes_eq xs ys ≡ true → xs ≡ ys
bytes_same [] [] h = refl
bytes_same [] (y ∷ ys) h = absurd cc
bytes_same (x ∷ xs) [] h = absurd cc
bytes_same (x ∷ xs) (y ∷ ys) h =
    let parts = and_parts (x == y) (bytes_eq xs ys) h in
    let same : x ≡ y = grind (arith, nat_tests, parts.0) in
    rw (same, bytes_same xs ys parts.1) refl

-- the text at a place
pub text_at : (texts : List (String Global)) (place : ℕ) (text : String Global) (name : List ℕ) → Some text ≡ slice_get texts place → string_bytes text ≡ name
    → option_map string_bytes (slice_get texts place) ≡ Some name
text_at texts place text name there same = ap (λ (o : Option (String Global)). option_map string_bytes o) (sym there) ∙ ap (λ (n : List ℕ). Some n) same
