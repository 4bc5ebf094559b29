-- Attributes of one Type among others: one that stands first, the last of them, and none.
use Rattle.std.proofs.Common.{◌≡◌, ℕ, Bool, true, false, cond, eqb, eq-eqb, List, [], ◌∷◌, ◌++◌, refl, sym, ap, ◌∙◌}
use Rattle.rad_packet.specs.Attribute.{Attribute, of_kind}

-- one of a Type is the first of them all, where it stands first
pub of_kind_first : (kind : ℕ) (x : Attribute) (xs : List Attribute) → x.kind ≡ kind → of_kind kind (x ∷ xs) ≡ x ∷ of_kind kind xs
of_kind_first kind x xs e = let t : eqb x.kind kind ≡ true = eq-eqb x.kind kind e in ap (λ b. cond b (x ∷ of_kind kind xs) (of_kind kind xs)) t

none_here : (kind : ℕ) (x : Attribute) (xs : List Attribute) → of_kind kind (x ∷ xs) ≡ [] → x.kind ≡ kind → ⊥
none_here kind x xs none e = let first = of_kind_first kind x xs e in cc

later : (b : Bool) (x : Attribute) (ys : List Attribute) → cond b (x ∷ ys) ys ≡ [] → ys ≡ []
later true x ys h = cc
later false x ys h = h

none_later : (kind : ℕ) (x : Attribute) (xs : List Attribute) → of_kind kind (x ∷ xs) ≡ [] → of_kind kind xs ≡ []
none_later kind x xs none = later (eqb x.kind kind) x (of_kind kind xs) none

-- where there is none of a Type, none stands at any place
pub none_among : (kind : ℕ) (xs : List Attribute) (a : Attribute) (ys : List Attribute) → of_kind kind (xs ++ a ∷ ys) ≡ [] → a.kind ≡ kind → ⊥
none_among kind [] a ys none e = none_here kind a ys none e
none_among kind (x ∷ xs) a ys none e = none_among kind xs a ys (none_later kind x (xs ++ a ∷ ys) none) e

-- the attributes are parted at the last of a Type in one way
pub record SameParts (xs : List Attribute) (a : Attribute) (ys xs' : List Attribute) (a' : Attribute) (ys' : List Attribute) : Type 0 where
  pub before : xs ≡ xs'
  pub here : a ≡ a'
  pub after : ys ≡ ys'

pub same_last : (kind : ℕ) (xs : List Attribute) (a : Attribute) (ys xs' : List Attribute) (a' : Attribute) (ys' : List Attribute)
    → of_kind kind ys ≡ [] → of_kind kind ys' ≡ [] → a.kind ≡ kind → a'.kind ≡ kind → xs ++ a ∷ ys ≡ xs' ++ a' ∷ ys' → SameParts xs a ys xs' a' ys'
same_last kind [] a ys [] a' ys' n n' k k' e = record { before = refl; here = cc; after = cc }
same_last kind [] a ys (x' ∷ xs') a' ys' n n' k k' e =
    let rest : ys ≡ xs' ++ a' ∷ ys' = cc in absurd (none_among kind xs' a' ys' (ap (of_kind kind) (sym rest) ∙ n) k')
same_last kind (x ∷ xs) a ys [] a' ys' n n' k k' e =
    let rest : ys' ≡ xs ++ a ∷ ys = cc in absurd (none_among kind xs a ys (ap (of_kind kind) (sym rest) ∙ n') k)
same_last kind (x ∷ xs) a ys (x' ∷ xs') a' ys' n n' k k' e =
    let h : x ≡ x' = cc in
    let rest : xs ++ a ∷ ys ≡ xs' ++ a' ∷ ys' = cc in
    let s : SameParts xs a ys xs' a' ys' = same_last kind xs a ys xs' a' ys' n n' k k' rest in
    record { before = ap (λ y. y ∷ xs) h ∙ ap (λ ys. x' ∷ ys) s.before; here = s.here; after = s.after }
