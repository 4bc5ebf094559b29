-- What loops over lists keep.
use Rattle.std.proofs.Common.{◌≡◌, ℕ, zero, suc, ◌+◌, ◌-◌, ◌<◌, ◌≤◌, min, map, take, List, [], ◌∷◌, ◌++◌, length, get_or, drop, Option, Some, None, refl, sym, ap, subst, ◌∙◌, append_assoc, arith}
use Rattle.std.proofs.lemmas.List.{drop_more, take_more, take_all, take_min, length-map, length-take}
use Rattle.std.proofs.lemmas.List.Elements.{All-nil, All-cons}
use Rattle.std.specs.List.{All, AllZip, filter_map, cons_option}
use Rattle.std.specs.Option.{option_to_list}

cons_is_append : {Y : Type 0} (o : Option Y) (ys : List Y) → cons_option o ys ≡ option_to_list o ++ ys
cons_is_append None ys = refl
cons_is_append (Some y) ys = refl

-- what was picked so far, and what will be of the rest
pub filter_map_onward : {X Y : Type 0} (f : X → Option Y) (xs : List X) (i : ℕ) (x : X) (told all : List Y)
    → i < length xs → get_or xs i x ≡ x → told ++ filter_map f (drop i xs) ≡ all → (told ++ option_to_list (f x)) ++ filter_map f (drop (i + 1) xs) ≡ all
filter_map_onward f xs i x told all lt at e =
    append_assoc told (option_to_list (f x)) (filter_map f (drop (i + 1) xs))
    ∙ ap (λ ys. told ++ ys) (sym (cons_is_append (f x) (filter_map f (drop (i + 1) xs))))
    ∙ ap (λ ys. told ++ ys) (sym (ap (filter_map f) (drop_more xs i x lt ∙ ap (λ y. y ∷ drop (i + 1) xs) at)))
    ∙ e

take_of_map : {X Y : Type 0} (f : X → Y) (n : ℕ) (xs : List X) → map f (take n xs) ≡ take n (map f xs)
take_of_map f zero [] = refl
take_of_map f zero (x ∷ xs) = refl
take_of_map f (suc n) [] = refl
take_of_map f (suc n) (x ∷ xs) = ap (λ ys. f x ∷ ys) (take_of_map f n xs)

-- the end of a front of the list, where it is not longer than the list
pub end_of_front : {X : Type 0} (most : ℕ) (xs : List X) (count : ℕ) → count ≡ min (length xs) most → count ≡ length (take count xs)
end_of_front most xs count e = simp length-take (omega arith)

-- the whole of that front is the first ones
pub all_of_front : {X : Type 0} (most : ℕ) (xs : List X) (count i : ℕ) → count ≡ min (length xs) most → length (take count xs) ≤ i → take i (take count xs) ≡ take most xs
all_of_front most xs count i e le =
    let same : count ≡ min most (length xs) = omega (arith, e) in
    take_all i (take count xs) le ∙ ap (λ (n : ℕ). take n xs) same ∙ take_min most xs

-- two lists whose elements go together at each place, with one more at the end of each
zip_push : {X Y : Type 0} (R : X → Y → Type 0) (xs : List X) (ys : List Y) (x : X) (y : Y) → AllZip R xs ys → R x y → AllZip R (xs ++ x ∷ []) (ys ++ y ∷ [])
zip_push R [] [] x y h r = (r, tt)
zip_push R [] (b ∷ ys) x y h r = absurd h
zip_push R (a ∷ xs) [] x y h r = absurd h
zip_push R (a ∷ xs) (b ∷ ys) x y h r = (h.0, zip_push R xs ys x y h.1 r)

pub zip_more : {X Y : Type 0} (R : X → Y → Type 0) (xs : List X) (ys : List Y) (i : ℕ) (x : X) (y : Y) → i < length xs → x ≡ get_or xs i x
    → AllZip R (take i xs) ys → R x y → AllZip R (take (i + 1) xs) (ys ++ y ∷ [])
zip_more R xs ys i x y lt is h r =
    subst (λ l. AllZip R l (ys ++ y ∷ [])) (ap (λ z. take i xs ++ z ∷ []) is ∙ sym (take_more xs i x lt)) (zip_push R (take i xs) ys x y h r)

module _ {X Y : Type 0} (R : X → Y → Type 0) where
  -- what goes together has the same image
  zip_images : {Z : Type 0} (f : Y → Z) (g : X → Z) → ((x : X) (y : Y) → R x y → f y ≡ g x) → (xs : List X) (ys : List Y) → AllZip R xs ys → map f ys ≡ map g xs
  zip_images f g same [] [] h = refl
  zip_images f g same [] (y ∷ ys) h = absurd h
  zip_images f g same (x ∷ xs) [] h = absurd h
  zip_images f g same (x ∷ xs) (y ∷ ys) h = rw (same x y h.0, zip_images f g same xs ys h.1) refl

  pub first_images : {Z : Type 0} (f : Y → Z) (g : X → Z) → ((x : X) (y : Y) → R x y → f y ≡ g x) → (n : ℕ) (xs : List X) (ys : List Y) → AllZip R (take n xs) ys → map f ys ≡ take n (map g xs)
  first_images f g same n xs ys h = zip_images f g same (take n xs) ys h ∙ take_of_map g n xs

  -- the image of each is the other itself
  pub zip_themselves : (f : Y → X) → ((x : X) (y : Y) → R x y → f y ≡ x) → (xs : List X) (ys : List Y) → AllZip R xs ys → map f ys ≡ xs
  zip_themselves f same [] [] h = refl
  zip_themselves f same [] (y ∷ ys) h = absurd h
  zip_themselves f same (x ∷ xs) [] h = absurd h
  zip_themselves f same (x ∷ xs) (y ∷ ys) h = rw (same x y h.0, zip_themselves f same xs ys h.1) refl

  -- what holds of each that goes together with one
  pub zip_each : (P : Y → Type 0) → ((x : X) (y : Y) → R x y → P y) → (xs : List X) (ys : List Y) → AllZip R xs ys → All P ys
  zip_each P holds [] [] h = All-nil P
  zip_each P holds [] (y ∷ ys) h = absurd h
  zip_each P holds (x ∷ xs) [] h = absurd h
  zip_each P holds (x ∷ xs) (y ∷ ys) h = All-cons P y ys (holds x y h.0) (zip_each P holds xs ys h.1)

-- the number of the others
pub others : {X Y : Type 0} (f : X → Y) (most : ℕ) (xs : List X) (more : ℕ) → more ≡ length xs - most → more ≡ length (map f xs) - most
others f most xs more e = e ∙ ap (λ (n : ℕ). n - most) (sym (length-map xs f))
