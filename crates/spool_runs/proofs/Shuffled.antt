-- What stays of a list that is put into another order.
use Rattle.std.proofs.Common.{◌≡◌, ℕ, ◌<◌, List, length, get_or, refl, sym, ap, ◌∙◌, subst, inl, inr, arith}
use Rattle.std.specs.Prelude.{◌⊎◌, AllPairs}
use Rattle.std.specs.List.{swap}
use Rattle.std.specs.List.Sorted.{IsPermutation}
use Rattle.std.proofs.lemmas.Bool.{cases_lt, cases_eq}
use Rattle.std.proofs.lemmas.List.Sorted.{IsPermutation-keeps, length_permutation, IsPermutation-swap}
use Rattle.std.proofs.lemmas.List.Edits.{swapped_from_swap}

-- a relation of any two, whichever stands first
abbrev Apart : {X : Type 0} → (X → X → Type 0) → List X → Type 0
Apart {X} R xs = (i j : ℕ) (d : X) → i < length xs → j < length xs → (i ≡ j → ⊥) → R (get_or xs i d) (get_or xs j d)

apart_of : {X : Type 0} (R : X → X → Type 0) → ((x y : X) → R x y → R y x) → (xs : List X) → AllPairs R xs → Apart R xs
apart_of R back xs pairs i j d in_i in_j other = elim (cases_lt i j) [
  | inl less ↦ pairs i j d less in_j
  | inr more ↦ back (get_or xs j d) (get_or xs i d) (pairs j i d (omega (arith, more, other)) in_i)
]

-- a place before an exchange of two
record Was (a b n i : ℕ) : Type 0 where
  at : ℕ
  within : at < n
  kind : ((i ≡ a) × (at ≡ b)) ⊎ (((i ≡ b) × (at ≡ a)) ⊎ (((i ≡ a → ⊥) × (i ≡ b → ⊥)) × (at ≡ i)))

was_apart : (a b n i j : ℕ) (p : Was a b n i) (q : Was a b n j) → (i ≡ j → ⊥) → p.at ≡ q.at → ⊥
was_apart a b n i j p q other same = elim p.kind [
  | inl ia ↦ elim q.kind [
    | inl ja ↦ other (ia.0 ∙ sym ja.0)
    | inr rest ↦ elim rest [
      | inl jb ↦ other (ia.0 ∙ sym jb.1 ∙ sym same ∙ ia.1 ∙ sym jb.0)
      | inr jo ↦ jo.0.1 (sym jo.1 ∙ sym same ∙ ia.1)
    ]
  ]
  | inr others ↦ elim others [
    | inl ib ↦ elim q.kind [
      | inl ja ↦ other (ib.0 ∙ sym ja.1 ∙ sym same ∙ ib.1 ∙ sym ja.0)
      | inr rest ↦ elim rest [
        | inl jb ↦ other (ib.0 ∙ sym jb.0)
        | inr jo ↦ jo.0.0 (sym jo.1 ∙ sym same ∙ ib.1)
      ]
    ]
    | inr io ↦ elim q.kind [
      | inl ja ↦ io.0.1 (sym io.1 ∙ same ∙ ja.1)
      | inr rest ↦ elim rest [
        | inl jb ↦ io.0.0 (sym io.1 ∙ same ∙ jb.1)
        | inr jo ↦ other (sym io.1 ∙ same ∙ jo.1)
      ]
    ]
  ]
]

module _ {X : Type 0} (R : X → X → Type 0) where
  swapped_apart : (xs : List X) (a b : ℕ) → a < length xs → b < length xs → Apart R xs → Apart R (swap xs a b)
  swapped_apart xs a b in_a in_b apart i j d in_i in_j other =
      let ys = swap xs a b in
      let long : length ys ≡ length xs = length_permutation xs ys (IsPermutation-swap xs ys a b in_a in_b refl) in
      let places = swapped_from_swap xs ys a b d in_a in_b refl in
      let was : (k : ℕ) → k < length ys → (w : Was a b (length xs) k) × (get_or ys k d ≡ get_or xs w.at d) = λ k in_k.
      elim (cases_eq k a) [
        | inl is ↦ (record { at = b; within = in_b; kind = inl (is, refl) }, ap (λ m. get_or ys m d) is ∙ places.0)
        | inr not_a ↦ elim (cases_eq k b) [
          | inl is ↦ (record { at = a; within = in_a; kind = inr (inl (is, refl)) }, ap (λ m. get_or ys m d) is ∙ places.1)
          | inr not_b ↦ (record { at = k; within = omega (arith, in_k, long); kind = inr (inr ((not_a, not_b), refl)) }, places.2 k not_a not_b)
        ]
      ] in
      let one = was i in_i in
      let two = was j in_j in
      subst (λ x. R x (get_or ys j d)) (sym one.1) (subst (λ y. R (get_or xs one.0.at d) y) (sym two.1)
      (apart one.0.at two.0.at d one.0.within two.0.within (was_apart a b (length xs) i j one.0 two.0 other)))

  -- a relation of any two stays
  pub shuffled_pairs : ((x y : X) → R x y → R y x) → (xs ys : List X) → IsPermutation xs ys → AllPairs R xs → AllPairs R ys
  shuffled_pairs back xs ys same pairs i j d less within =
      IsPermutation-keeps xs (Apart R) (apart_of R back xs pairs) (λ l a b in_a in_b h. swapped_apart l a b in_a in_b h) ys same
      i j d (omega (arith, less, within)) within (λ is. absurd (omega (arith, less, is)))
