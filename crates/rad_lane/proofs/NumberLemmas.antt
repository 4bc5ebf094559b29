-- Lists of numbers, and of what has them.
use Rattle.std.proofs.Common.{◌≡◌, ℕ, zero, suc, ◌+◌, ◌-◌, ◌<◌, ◌≤◌, true, false, inl, inr, List, [], ◌∷◌, ◌++◌, length, take, Option, None, refl, sym, ap, ◌∙◌, arith, add-zero, add-one, length-append}
use Rattle.std.specs.Prelude.{map as each, slice_get, nat_lt}
use Rattle.std.specs.Option.{option_flatten}
use Rattle.std.specs.List.{range_with_len}
use Rattle.std.proofs.lemmas.Bool.Decides.{leb_tells}
use Rattle.std.proofs.lemmas.List.{map-append, take-append-le}

pub range_more : (from count : ℕ) → range_with_len from (count + 1) ≡ range_with_len from count ++ (from + count) ∷ []
range_more from zero = rw add-zero refl
range_more from (suc count) =
    let next : from + 1 + count ≡ from + suc count = omega arith in
    let rest : range_with_len (from + 1) (count + 1) ≡ range_with_len (from + 1) count ++ (from + suc count) ∷ [] = range_more (from + 1) count ∙ ap (λ n. range_with_len (from + 1) count ++ n ∷ []) next in
    rw (add-one (suc count)) (ap (λ numbers. from ∷ numbers) (rw (add-one count) at rest))

-- items that are numbered from a number on, with one item more of the next number
pub numbered_more : {X : Type 0} (number : X → ℕ) (opening : ℕ) (items : List X) (item : X) → each number items ≡ range_with_len opening (length items) → number item ≡ opening + length items → each number (items ++ item ∷ []) ≡ range_with_len opening (length (items ++ item ∷ []))
numbered_more number opening items item h next =
    map-append number items (item ∷ [])
    ∙ ap (λ ns. ns ++ number item ∷ []) h
    ∙ ap (λ n. range_with_len opening (length items) ++ n ∷ []) next
    ∙ sym (range_more opening (length items))
    ∙ ap (λ n. range_with_len opening n) (sym (length-append items (item ∷ [])))

-- with one item more in both, the same front is left
pub front_same : {X Y : Type 0} (items : List X) (item : X) (others : List Y) (other : Y) → length others ≤ length items → take (length (items ++ item ∷ []) - length (others ++ other ∷ [])) (items ++ item ∷ []) ≡ take (length items - length others) items
front_same items item others other fits =
    let count : length (items ++ item ∷ []) - length (others ++ other ∷ []) ≡ length items - length others = omega (arith, length-append items (item ∷ []), length-append others (other ∷ [])) in
    let within : length items - length others ≤ length items = omega arith in
    ap (λ n. take n (items ++ item ∷ [])) count ∙ take-append-le (length items - length others) items (item ∷ []) within

-- an empty cell more changes no look-up
pub none_more : {X : Type 0} (cells : List (Option X)) (place : ℕ) → option_flatten (slice_get (cells ++ None ∷ []) place) ≡ option_flatten (slice_get cells place)
none_more [] zero = refl
none_more [] (suc place) = refl
none_more (cell ∷ cells) zero = refl
none_more (cell ∷ cells) (suc place) = none_more cells place

-- whether a number is below a bound
pub test_since : (number bound : ℕ) → bound ≤ number → nat_lt number bound ≡ false
test_since number bound h = elim (leb_tells (suc number) bound) [ inl below ↦ absurd (omega (arith, below.1, h)) | inr since ↦ since.0 ]

pub test_below : (number bound : ℕ) → number < bound → nat_lt number bound ≡ true
test_below number bound h = elim (leb_tells (suc number) bound) [ inl below ↦ below.0 | inr since ↦ absurd (omega (arith, since.1, h)) ]
