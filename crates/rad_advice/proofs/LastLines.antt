-- The last line of a text, from its end.
use Rattle.std.proofs.Common.{◌≡◌, ℕ, zero, suc, ◌+◌, ◌-◌, ◌<◌, ◌≤◌, ◌==◌, true, false, List, [], ◌∷◌, length, get_or, take, drop, Some, None, refl, sym, ap, ◌∙◌, arith}
use Rattle.std.proofs.lemmas.List.{drop_more, take_all, length-drop}
use Rattle.std.proofs.Math.ListN.{drop_of_length-le}
use Rattle.rad_advice.specs.Place.{line_behind}

-- behind the end there is no line
pub none_at_end : (text : List ℕ) → line_behind (drop (length text) text) ≡ None
unfolding line_behind
none_at_end text = ap line_behind (drop_of_length-le text (omega arith))

-- one octet more, no line feed
none_before : (text : List ℕ) (n : ℕ) → n < length text → (get_or text n 0 == 10) ≡ false → line_behind (drop (n + 1) text) ≡ None → line_behind (drop n text) ≡ None
unfolding line_behind
none_before text n lt other none = rw (drop_more text n 0 lt, none, other) refl

pub none_more : (text : List ℕ) (place : ℕ) → 0 < place → place ≤ length text → (get_or text (place - 1) 0 == 10) ≡ false → line_behind (drop place text) ≡ None → line_behind (drop (place - 1) text) ≡ None
none_more text place some le other none =
    let n : (place - 1) + 1 ≡ place = omega arith in
    none_before text (place - 1) (omega arith) other (rw n none)

-- one octet more, an line feed
found_behind : (text : List ℕ) (n : ℕ) → n < length text → (get_or text n 0 == 10) ≡ true → line_behind (drop (n + 1) text) ≡ None → line_behind (drop n text) ≡ Some (drop (n + 1) text)
unfolding line_behind
found_behind text n lt same none = rw (drop_more text n 0 lt, none, same) refl

-- a line behind the rest is one behind the whole
line_of_whole : (text : List ℕ) (n : ℕ) (line : List ℕ) → line_behind (drop n text) ≡ Some line → line_behind text ≡ Some line
unfolding line_behind
line_of_whole [] zero line e = e
line_of_whole [] (suc n) line e = e
line_of_whole (o ∷ os) zero line e = e
line_of_whole (o ∷ os) (suc n) line e = rw (line_of_whole os n line e) refl

pub line_found : (text : List ℕ) (place : ℕ) → 0 < place → place ≤ length text → (get_or text (place - 1) 0 == 10) ≡ true → line_behind (drop place text) ≡ None
    → Some (take (length text - place) (drop place text)) ≡ line_behind text
line_found text place some le same none =
    let n : (place - 1) + 1 ≡ place = omega arith in
    let here = found_behind text (place - 1) (omega arith) same (rw n none) in
    let whole = line_of_whole text (place - 1) (drop ((place - 1) + 1) text) here in
    let all : take (length text - place) (drop place text) ≡ drop place text = grind (arith, take_all, length-drop) in
    ap (λ (xs : List ℕ). Some xs) all ∙ sym (whole ∙ ap (λ (k : ℕ). Some (drop k text)) n)
