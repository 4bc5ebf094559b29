-- What stands in a list, and where.
use Rattle.std.proofs.Common.{◌≡◌, ℕ, zero, suc, Bool, true, false, cond, List, [], ◌∷◌, ◌++◌, take, drop, refl, sym, ap, subst, ◌∙◌, inl, inr, arith}
use Rattle.std.specs.Prelude.{◌⊎◌}
use Rattle.std.specs.List.{Contains, filter}
use Rattle.std.proofs.lemmas.List.{take-append-drop}
use Rattle.std.proofs.lemmas.List.Elements.{Contains-append_left, Contains-append_right, Contains-append_cases}

pub first_in : {X : Type 0} (x : X) (xs : List X) → Contains (x ∷ xs) x
first_in x xs = (0, omega arith, refl)

pub behind : {X : Type 0} (x : X) (xs : List X) (y : X) → Contains xs y → Contains (x ∷ xs) y
behind x xs y (k, within, is) = (suc k, omega (arith, within), is)

pub parted : {X : Type 0} (x : X) (xs : List X) (y : X) → Contains (x ∷ xs) y → (x ≡ y) ⊎ Contains xs y
parted x xs y (zero, within, is) = inl is
parted x xs y (suc k, within, is) = inr (k, omega (arith, within), is)

pub none_there : {X : Type 0} (y : X) → Contains [] y → ⊥
none_there y (k, within, is) = absurd (omega (arith, within))

-- the last of a list, and one of the others
pub last_in : {X : Type 0} (xs : List X) (x : X) → Contains (xs ++ x ∷ []) x
last_in xs x = Contains-append_right xs (x ∷ []) x (first_in x [])

pub pushed : {X : Type 0} (xs : List X) (x y : X) → Contains (xs ++ x ∷ []) y → Contains xs y ⊎ (x ≡ y)
pushed xs x y there = elim (Contains-append_cases xs (x ∷ []) y there) [
  | inl before ↦ inl before
  | inr here ↦ elim (parted x [] y here) [ inl same ↦ inr same | inr none ↦ absurd (none_there y none) ]
]

-- one that stands in the middle
pub in_middle : {X : Type 0} (before : List X) (x : X) (after : List X) → Contains (before ++ x ∷ after) x
in_middle before x after = Contains-append_right before (x ∷ after) x (first_in x after)

pub around : {X : Type 0} (before : List X) (x : X) (after : List X) (y : X) → Contains (before ++ x ∷ after) y → Contains (before ++ after) y ⊎ (x ≡ y)
around before x after y there = elim (Contains-append_cases before (x ∷ after) y there) [
  | inl first ↦ inl (Contains-append_left before after y first)
  | inr rest ↦ elim (parted x after y rest) [ inl same ↦ inr same | inr last ↦ inl (Contains-append_right before after y last) ]
]

pub with_one : {X : Type 0} (before : List X) (x : X) (after : List X) (y : X) → Contains (before ++ after) y → Contains (before ++ x ∷ after) y
with_one before x after y there = elim (Contains-append_cases before after y there) [
  | inl first ↦ Contains-append_left before (x ∷ after) y first
  | inr last ↦ Contains-append_right before (x ∷ after) y (behind x after y last)
]

-- where it stands
pub record StandsIn {X : Type 0} (xs : List X) (y : X) : Type 0 where
  pub before : List X
  pub after : List X
  pub split : xs ≡ before ++ y ∷ after

pub stands : {X : Type 0} (xs : List X) (y : X) → Contains xs y → StandsIn xs y
stands [] y there = absurd (none_there y there)
stands (x ∷ xs) y there = elim (parted x xs y there) [
  | inl same ↦ record { before = []; after = xs; split = ap (λ z. z ∷ xs) same }
  | inr later ↦ let s = stands xs y later in record { before = x ∷ s.before; after = s.after; split = ap (λ ys. x ∷ ys) s.split }
]

-- what passes a test
passed_by : {X : Type 0} (b : Bool) (x y : X) (xs : List X) → b ≡ true → (x ≡ y) ⊎ Contains xs y → Contains (cond b (x ∷ xs) xs) y
passed_by true x y xs is h = elim h [ inl same ↦ (0, omega arith, same) | inr later ↦ behind x xs y later ]
passed_by false x y xs is h = cc

kept_by : {X : Type 0} (b : Bool) (x y : X) (xs : List X) → Contains xs y → Contains (cond b (x ∷ xs) xs) y
kept_by true x y xs h = behind x xs y h
kept_by false x y xs h = h

pub passes : {X : Type 0} (p : X → Bool) (xs : List X) (y : X) → p y ≡ true → Contains xs y → Contains (filter p xs) y
passes p [] y is there = there
passes p (x ∷ xs) y is there = elim (parted x xs y there) [
  | inl same ↦ passed_by (p x) x y (filter p xs) (ap p same ∙ is) (inl same)
  | inr later ↦ kept_by (p x) x y (filter p xs) (passes p xs y is later)
]

passed_from : {X : Type 0} (p : X → Bool) (b : Bool) (x y : X) (xs : List X) → p x ≡ b → Contains (cond b (x ∷ xs) xs) y → ((x ≡ y) × (p y ≡ true)) ⊎ Contains xs y
passed_from p true x y xs is there = elim (parted x xs y there) [ inl same ↦ inl (same, ap p (sym same) ∙ is) | inr later ↦ inr later ]
passed_from p false x y xs is there = inr there

pub was_passed : {X : Type 0} (p : X → Bool) (xs : List X) (y : X) → Contains (filter p xs) y → Contains xs y × (p y ≡ true)
was_passed p [] y there = absurd (none_there y there)
was_passed p (x ∷ xs) y there = elim (passed_from p (p x) x y (filter p xs) refl there) [
  | inl here ↦ ((0, omega arith, here.0), here.1)
  | inr later ↦ let w = was_passed p xs y later in (behind x xs y w.0, w.1)
]

-- the first of a list and the rest
pub in_parts : {X : Type 0} (n : ℕ) (xs : List X) (y : X) → Contains xs y → Contains (take n xs) y ⊎ Contains (drop n xs) y
in_parts n xs y there = Contains-append_cases (take n xs) (drop n xs) y (subst (λ ys. Contains ys y) (sym (take-append-drop n xs)) there)

pub of_first : {X : Type 0} (n : ℕ) (xs : List X) (y : X) → Contains (take n xs) y → Contains xs y
of_first n xs y there = subst (λ ys. Contains ys y) (take-append-drop n xs) (Contains-append_left (take n xs) (drop n xs) y there)

pub of_rest : {X : Type 0} (n : ℕ) (xs : List X) (y : X) → Contains (drop n xs) y → Contains xs y
of_rest n xs y there = subst (λ ys. Contains ys y) (take-append-drop n xs) (Contains-append_right (take n xs) (drop n xs) y there)
