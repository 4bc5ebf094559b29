-- Where nothing is found, each entry differs.
use Rattle.std.proofs.Common.{◌≡◌, ◌≢◌, ℕ, ◌+◌, Bool, false, List, [], ◌∷◌, Option, Some, is_some, sym, subst, ◌∙◌, inl, inr}
use Rattle.std.specs.Prelude.{find, position}
use Rattle.std.specs.List.{AllByRecursion, position_from}
use Rattle.std.proofs.lemmas.Iterator.Adapters.{position_from-zero}
use Rattle.std.specs.Str.{bytes_eq}
use Rattle.std.proofs.lemmas.Bool.{cases_Bool, false≢true}
use Rattle.std.proofs.lemmas.Slice.Eq.{bytes_eq-Decides}

pub not_some : {X : Type 0} (x : X) → is_some (Some x) ≡ false → ⊥
not_some x e = absurd cc

-- where nothing passes, each entry fails
pub none_found : {X : Type 0} (p : X → Bool) (xs : List X) → is_some (find p xs) ≡ false → AllByRecursion (λ x. p x ≡ false) xs
none_found p [] e = tt
none_found p (x ∷ xs) e =
    elim (cases_Bool (p x)) [
      | inl same ↦ let some : is_some (Some x) ≡ false = rw same at e in absurd (not_some x some)
      | inr other ↦ let rest : is_some (find p xs) ≡ false = rw other at e in (other, none_found p xs rest)
    ]

none_from : {X : Type 0} (p : X → Bool) (i : ℕ) (xs : List X) → is_some (position_from p i xs) ≡ false → AllByRecursion (λ x. p x ≡ false) xs
none_from p i [] e = tt
none_from p i (x ∷ xs) e =
    elim (cases_Bool (p x)) [
      | inl same ↦ let some : is_some (Some i) ≡ false = rw same at e in absurd (not_some i some)
      | inr other ↦ let rest : is_some (position_from p (i + 1) xs) ≡ false = rw other at e in (other, none_from p (i + 1) xs rest)
    ]

pub none_at : {X : Type 0} (p : X → Bool) (xs : List X) → is_some (position p xs) ≡ false → AllByRecursion (λ x. p x ≡ false) xs
none_at p xs e = none_from p 0 xs (subst (λ (o : Option ℕ). is_some o ≡ false) (position_from-zero p xs) e)

pub other_text : (a b : List ℕ) → bytes_eq a b ≡ false → a ≢ b
other_text a b other same = false≢true (sym other ∙ (bytes_eq-Decides a b).1 same)
