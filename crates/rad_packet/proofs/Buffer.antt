-- A buffer whose front is seen.
use Rattle.std.proofs.Common.{◌≡◌, ℕ, ◌+◌, ◌≤◌, List, [], ◌∷◌, ◌++◌, length, set, take, drop, sym, ap, ◌∙◌, arith, length-append, length-take, length-drop, append_assoc}
use Rattle.std.proofs.lemmas.List.{take_at, take-append-le, drop-append-le, take-append-drop, length-take-le}
use Rattle.rad_packet.proofs.Parts.{take-set}

-- octets copied behind the front, seen up to their end
pub take-put_behind : (xs more : List ℕ) (n k : ℕ) → n ≤ length xs → k ≡ n + length more → take k (take n xs ++ more ++ drop k xs) ≡ take n xs ++ more
take-put_behind xs more n k h e =
    take_at (take n xs ++ more) (drop k xs) k (omega (arith, length-append (take n xs) more, length-take n xs, e))

-- octets copied within the front
put_within : (text tail more : List ℕ) (place end : ℕ) → end ≡ place + length more → end ≤ length text → take (length text) (take place (text ++ tail) ++ more ++ drop end (text ++ tail)) ≡ take place text ++ more ++ drop end text
put_within text tail more place end e h =
    let p : place ≤ length text = omega arith in
    let front : take place (text ++ tail) ≡ take place text = take-append-le place text tail p in
    let back : drop end (text ++ tail) ≡ drop end text ++ tail = drop-append-le end text tail h in
    let whole : take place (text ++ tail) ++ more ++ drop end (text ++ tail) ≡ (take place text ++ more ++ drop end text) ++ tail =
    ap (λ t. t ++ more ++ drop end (text ++ tail)) front
    ∙ (ap (λ t. take place text ++ more ++ t) back ∙ sym (append_assoc (take place text ++ more) (drop end text) tail)) in
    let n : length (take place text ++ more ++ drop end text) ≡ length text =
    omega (arith, length-append (take place text ++ more) (drop end text), length-append (take place text) more, length-take place text, length-drop end text, e) in
    ap (take (length text)) whole ∙ take_at (take place text ++ more ++ drop end text) tail (length text) n

pub take-put_within : (xs more : List ℕ) (place end n : ℕ) → end ≡ place + length more → end ≤ n → n ≤ length xs → take n (take place xs ++ more ++ drop end xs) ≡ take place (take n xs) ++ more ++ drop end (take n xs)
take-put_within xs more place end n e h l =
    let len : length (take n xs) ≡ n = length-take-le n xs l in
    let fits : end ≤ length (take n xs) = omega (arith, len, h) in
    let s : take (length (take n xs)) (take place (take n xs ++ drop n xs) ++ more ++ drop end (take n xs ++ drop n xs)) ≡ take place (take n xs) ++ more ++ drop end (take n xs) =
    put_within (take n xs) (drop n xs) more place end e fits in
    rw (take-append-drop n xs, len) at s

-- the front of a buffer that is behind two writes near its start
pub take-sets : (n : ℕ) (xs : List ℕ) (high low : ℕ) → take n (set (set xs 2 high) 3 low) ≡ set (set (take n xs) 2 high) 3 low
take-sets n xs high low = take-set n 3 (set xs 2 high) low ∙ ap (λ ys. set ys 3 low) (take-set n 2 xs high)

-- a header written into a buffer
pub header-is : (xs authenticator : List ℕ) (a b c d start end : ℕ) → 4 ≤ start → end ≡ 20 → length authenticator ≡ 16 → take 20 (take 4 (take 0 xs ++ (a ∷ b ∷ c ∷ d ∷ []) ++ drop start xs) ++ authenticator ++ drop end (take 0 xs ++ (a ∷ b ∷ c ∷ d ∷ []) ++ drop start xs)) ≡ a ∷ b ∷ c ∷ d ∷ authenticator
header-is xs authenticator a b c d start end h e n =
    rw e (ap (λ ys. a ∷ b ∷ c ∷ d ∷ ys) (take_at authenticator (drop 16 (drop start xs)) 16 n))
