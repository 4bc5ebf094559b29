-- The realm of a name, from its end.
use Rattle.std.proofs.Common.{◌≡◌, ℕ, zero, suc, ◌+◌, ◌-◌, ◌<◌, ◌≤◌, ◌==◌, Bool, true, false, not, List, [], ◌∷◌, ◌++◌, length, get_or, take, drop, Some, None, refl, sym, ap, ◌∙◌, arith}
use Rattle.std.proofs.lemmas.List.{drop_more, take_all, length-drop}
use Rattle.std.specs.List.{list_all}
use Rattle.std.proofs.lemmas.Bool.{and_parts}
use Rattle.std.proofs.Math.ListN.{drop_of_length-le}
use Rattle.rad_config.specs.Realm.{realm_in}

-- behind the end there is no realm
pub no_realm_at_end : (name : List ℕ) → realm_in (drop (length name) name) ≡ None
unfolding realm_in
no_realm_at_end name = ap realm_in (drop_of_length-le name (omega arith))

-- one octet more, no `@`
no_realm_before : (name : List ℕ) (n : ℕ) → n < length name → (get_or name n 0 == 64) ≡ false → realm_in (drop (n + 1) name) ≡ None → realm_in (drop n name) ≡ None
unfolding realm_in
no_realm_before name n lt other none = rw (drop_more name n 0 lt, none, other) refl

pub no_realm_more : (name : List ℕ) (place : ℕ) → 0 < place → place ≤ length name → (get_or name (place - 1) 0 == 64) ≡ false → realm_in (drop place name) ≡ None → realm_in (drop (place - 1) name) ≡ None
no_realm_more name place some le other none =
    let n : (place - 1) + 1 ≡ place = omega arith in
    no_realm_before name (place - 1) (omega arith) other (rw n none)

-- one octet more, an `@`
realm_behind : (name : List ℕ) (n : ℕ) → n < length name → (get_or name n 0 == 64) ≡ true → realm_in (drop (n + 1) name) ≡ None → realm_in (drop n name) ≡ Some (drop (n + 1) name)
unfolding realm_in
realm_behind name n lt same none = rw (drop_more name n 0 lt, none, same) refl

-- a realm of the rest is the realm of the whole
realm_of_whole : (name : List ℕ) (n : ℕ) (realm : List ℕ) → realm_in (drop n name) ≡ Some realm → realm_in name ≡ Some realm
unfolding realm_in
realm_of_whole [] zero realm e = e
realm_of_whole [] (suc n) realm e = e
realm_of_whole (o ∷ os) zero realm e = e
realm_of_whole (o ∷ os) (suc n) realm e = rw (realm_of_whole os n realm e) refl

pub realm_found : (name : List ℕ) (place : ℕ) → 0 < place → place ≤ length name → (get_or name (place - 1) 0 == 64) ≡ true → realm_in (drop place name) ≡ None
    → Some (take (length name - place) (drop place name)) ≡ realm_in name
realm_found name place some le same none =
    let n : (place - 1) + 1 ≡ place = omega arith in
    let here = realm_behind name (place - 1) (omega arith) same (rw n none) in
    let whole = realm_of_whole name (place - 1) (drop ((place - 1) + 1) name) here in
    let all : take (length name - place) (drop place name) ≡ drop place name = grind (arith, take_all, length-drop) in
    ap (λ (xs : List ℕ). Some xs) all ∙ sym (whole ∙ ap (λ (k : ℕ). Some (drop k name)) n)

not_true : (b : Bool) → not b ≡ true → b ≡ false
not_true true h = absurd cc
not_true false h = refl

-- a name with no `@` has no realm
pub no_sign : (name : List ℕ) → list_all (λ o. not (o == 64)) name ≡ true → realm_in name ≡ None
unfolding realm_in
no_sign [] h = refl
no_sign (o ∷ os) h =
    let parts = and_parts (not (o == 64)) (list_all (λ o. not (o == 64)) os) h in
    let other : (o == 64) ≡ false = not_true (o == 64) parts.0 in
    rw (no_sign os parts.1, other) refl

-- what follows the last `@` is the realm
pub behind_the_last : (front realm : List ℕ) → list_all (λ o. not (o == 64)) realm ≡ true → realm_in (front ++ 64 ∷ realm) ≡ Some realm
unfolding realm_in
behind_the_last [] realm h = rw (no_sign realm h) refl
behind_the_last (o ∷ os) realm h = rw (behind_the_last os realm h) refl
