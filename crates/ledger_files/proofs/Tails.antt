-- What stands in the tail of a line.
use Rattle.std.proofs.Common.{◌≡◌, ℕ, ◌≤◌, Bool, true, false, List, [], ◌∷◌, ◌++◌, length, take, drop, refl, sym, ap, ◌∙◌, append_assoc, arith, length-append}
use Rattle.std.specs.Prelude.{codes, Result, Ok, Err, IsOk, OnOk}
use Rattle.std.specs.List.{slice_range}
use Rattle.std.proofs.Math.Seq.{take-append_seam, drop-append_seam}
use Rattle.hex.specs.Hex.{IsBytes, encode_lower, decode_sized}
use Rattle.hex.proofs.HexLemmas.{length-encode_with, decode_sized-encode_lower}
use Rattle.ledger_files.specs.Tails.{HasTail, tail_of}

pub opposed : (b : Bool) → b ≡ true → b ≡ false → ⊥
opposed b t f = cc

abbrev pub key : List ℕ
key = codes ",\"sum\":\""

abbrev pub close : List ℕ
close = codes "\"}"

-- The tail without its line end.
abbrev pub front_of : List ℕ → List ℕ
front_of sum = key ++ (encode_lower sum ++ close)

pub tail_is : (sum : List ℕ) → tail_of sum ≡ front_of sum ++ 10 ∷ []
unfolding tail_of
tail_is sum =
    ap (λ (x : List ℕ). key ++ x) (sym (append_assoc (encode_lower sum) close (10 ∷ [])))
    ∙ sym (append_assoc key (encode_lower sum ++ close) (10 ∷ []))

pub digits_long : (sum : List ℕ) → length sum ≡ 32 → length (encode_lower sum) ≡ 64
digits_long sum n = omega (arith, length-encode_with (codes "0123456789abcdef") sum, n)

pub front_long : (sum : List ℕ) → length sum ≡ 32 → length (front_of sum) ≡ 74
front_long sum n = omega (arith, length-append key (encode_lower sum ++ close), length-append (encode_lower sum) close, digits_long sum n)

pub tail_long : (sum : List ℕ) → length sum ≡ 32 → length (tail_of sum) ≡ 75
tail_long sum n = omega (arith, ap length (tail_is sum), length-append (front_of sum) (10 ∷ []), front_long sum n)

-- What stands before the last octet.
pub before_last : (a b : List ℕ) (x : ℕ) → length a ≡ length b → a ++ x ∷ [] ≡ b ++ x ∷ [] → a ≡ b
before_last a b x n e =
    sym (take-append_seam a (x ∷ [])) ∙ ap (take (length a)) e ∙ ap (λ (k : ℕ). take k (b ++ x ∷ [])) n ∙ take-append_seam b (x ∷ [])

-- What stands behind so many octets.
pub behind : (a b c d : List ℕ) → length a ≡ length b → a ++ c ≡ b ++ d → c ≡ d
behind a b c d n e = sym (drop-append_seam a c) ∙ ap (drop (length a)) e ∙ ap (λ (k : ℕ). drop k (b ++ d)) n ∙ drop-append_seam b d

pub front_is : (tail sum : List ℕ) → length tail ≡ 74 → length sum ≡ 32 → tail ++ 10 ∷ [] ≡ tail_of sum → tail ≡ front_of sum
front_is tail sum n m e = before_last tail (front_of sum) 10 (omega (arith, n, front_long sum m)) (e ∙ tail_is sum)

-- The digits in a tail.
pub digits_of_front : (sum : List ℕ) → length sum ≡ 32 → slice_range (front_of sum) 8 72 ≡ encode_lower sum
digits_of_front sum n =
    let back : drop 8 (front_of sum) ≡ encode_lower sum ++ close = drop-append_seam key (encode_lower sum ++ close) in
    ap (take 64) back ∙ ap (λ (k : ℕ). take k (encode_lower sum ++ close)) (sym (digits_long sum n)) ∙ take-append_seam (encode_lower sum) close

pub digits_in : (tail sum : List ℕ) → length tail ≡ 74 → length sum ≡ 32 → tail ++ 10 ∷ [] ≡ tail_of sum → slice_range tail 8 72 ≡ encode_lower sum
digits_in tail sum n m e = ap (λ (x : List ℕ). slice_range x 8 72) (front_is tail sum n m e) ∙ digits_of_front sum m

pub decoded : (digits tail sum : List ℕ) → digits ≡ slice_range tail 8 72 → length tail ≡ 74 → length sum ≡ 32 → IsBytes sum → tail ++ 10 ∷ [] ≡ tail_of sum → decode_sized digits 32 ≡ Ok sum
decoded digits tail sum d n m b e =
    ap (λ (x : List ℕ). decode_sized x 32) (d ∙ digits_in tail sum n m e) ∙ decode_sized-encode_lower sum 32 m b

-- A tail that is that of a sum, by all but its line end.
pub whole_tail : (tail same its sum : List ℕ) → length sum ≡ 32 → its ≡ tail_of sum → same ≡ take 74 its → same ≡ tail → tail ++ 10 ∷ [] ≡ tail_of sum
whole_tail tail same its sum m e s t =
    let front : take 74 (tail_of sum) ≡ front_of sum =
    ap (take 74) (tail_is sum) ∙ ap (λ (k : ℕ). take k (front_of sum ++ 10 ∷ [])) (sym (front_long sum m)) ∙ take-append_seam (front_of sum) (10 ∷ []) in
    ap (λ (x : List ℕ). x ++ 10 ∷ []) (sym t ∙ s ∙ ap (take 74) e ∙ front) ∙ sym (tail_is sum)

-- The other way.
pub tail_same : (tail same its sum : List ℕ) → length tail ≡ 74 → length sum ≡ 32 → its ≡ tail_of sum → same ≡ take 74 its → tail ++ 10 ∷ [] ≡ tail_of sum → same ≡ tail
tail_same tail same its sum n m e s t =
    let front : take 74 (tail_of sum) ≡ front_of sum =
    ap (take 74) (tail_is sum) ∙ ap (λ (k : ℕ). take k (front_of sum ++ 10 ∷ [])) (sym (front_long sum m)) ∙ take-append_seam (front_of sum) (10 ∷ []) in
    s ∙ ap (take 74) e ∙ front ∙ sym (front_is tail sum n m t)

-- The tail of a line stands at its end.
pub tail_there : (line body tail : List ℕ) → line ≡ body ++ tail → length tail ≡ 74 → (h : HasTail (line ++ 10 ∷ [])) → tail ++ 10 ∷ [] ≡ tail_of h.sum
tail_there line body tail e n h =
    let its : body ++ (tail ++ 10 ∷ []) ≡ h.body ++ tail_of h.sum = sym (append_assoc body tail (10 ∷ [])) ∙ ap (λ (x : List ℕ). x ++ 10 ∷ []) (sym e) ∙ h.is in
    let long : length (tail ++ 10 ∷ []) ≡ 75 = omega (arith, length-append tail (10 ∷ []), n) in
    let same : length body ≡ length h.body = omega (arith, ap length its, length-append body (tail ++ 10 ∷ []), length-append h.body (tail_of h.sum), long, tail_long h.sum h.long) in
    behind body h.body (tail ++ 10 ∷ []) (tail_of h.sum) same its

pub too_short : (line : List ℕ) → HasTail (line ++ 10 ∷ []) → 74 ≤ length line
too_short line h =
    omega (arith, ap length h.is, length-append line (10 ∷ []), length-append h.body (tail_of h.sum), tail_long h.sum h.long)

pub three_parts : (sum a b c : List ℕ) → a ≡ key → b ≡ encode_lower sum → c ≡ close ++ 10 ∷ [] → a ++ (b ++ c) ≡ tail_of sum
unfolding tail_of
three_parts sum a b c e f g =
    ap (λ (x : List ℕ). x ++ (b ++ c)) e ∙ ap (λ (x : List ℕ). key ++ (x ++ c)) f ∙ ap (λ (x : List ℕ). key ++ (encode_lower sum ++ x)) g

pub ok_then : {T E : Type 0} (r : Result T E) (P : Type 0) → IsOk r → OnOk r P → P
ok_then (Ok x) P i h = h
ok_then (Err e) P i h = absurd (opposed true refl (sym i))

pub same_sum : {E : Type 0} (r : Result (List ℕ) E) (a b : List ℕ) → r ≡ Ok a → r ≡ Ok b → a ≡ b
same_sum r a b e f = cc
