-- What parts have together, of what each has of its job.
use Rattle.std.proofs.Common.{◌≡◌, ℕ, ◌+◌, ◌<◌, zero, suc, List, [], ◌∷◌, ◌++◌, length, take, get_or, map, add-one, All, Result, Ok, Err, IfOk, flat_map, refl, sym, ap, ◌∙◌, arith}
use Rattle.std.proofs.Math.Seq.{take-suc}
use Rattle.std.proofs.lemmas.List.{map-append}
use Rattle.std.proofs.lemmas.List.Elements.{All-append}
use Rattle.rad_audit.specs.Blocks.{IsWhole, octets_of}
use Rattle.rad_audit.specs.declared.blocks.Part.{Part}

-- parts of which each whole one has what its job has, have together what the jobs have, if all are whole
pub have_lines : {J : Type 0} (lines : J → List (List ℕ)) (js : List J) (ps : List Part) → length ps ≡ length js
    → ((i : ℕ) (d : J) (p : Part) → i < length js → IsWhole (get_or ps i p) → octets_of (get_or ps i p) ≡ lines (get_or js i d))
    → All IsWhole ps → flat_map octets_of ps ≡ flat_map lines js
have_lines lines [] [] len each whole = refl
have_lines lines [] (p ∷ ps) len each whole = absurd omega (arith, len)
have_lines lines (j ∷ js) [] len each whole = absurd omega (arith, len)
have_lines lines (j ∷ js) (p ∷ ps) len each whole =
    ap (λ x. x ++ flat_map octets_of ps) (each 0 j p (omega arith) (whole 0 p (omega arith)))
    ∙ ap (λ x. lines j ++ x) (have_lines lines js ps (omega (arith, len)) (λ i d q h w. each (suc i) d q (omega (arith, h)) w) (λ k d h. whole (suc k) d (omega (arith, h))))

-- what two facts of a value give, is so of the value of a result of which both are so
pub ok_both : {X E : Type 0} (r : Result X E) (P Q S : X → Type 0) → IfOk r P → IfOk r Q → ((x : X) → P x → Q x → S x) → IfOk r S
ok_both (Ok x) P Q S p q f = f x p q
ok_both (Err e) P Q S p q f = tt

-- one more line, which has what the next slot has
pub one_more : {A B : Type 0} (f : A → List ℕ) (g : B → List ℕ) (xs : List A) (ys : List B) (i : ℕ) (x : A) (d : B) → i < length ys → map f xs ≡ map g (take i ys)
    → f x ≡ g (get_or ys i d) → map f (xs ++ x ∷ []) ≡ map g (take (i + 1) ys)
one_more f g xs ys i x d h so is =
    let next : take (i + 1) ys ≡ take i ys ++ get_or ys i d ∷ [] = rw add-one (take-suc ys i d h) in
    map-append f xs (x ∷ []) ∙ ap (λ m. m ++ f x ∷ []) so ∙ ap (λ y. map g (take i ys) ++ y ∷ []) is
    ∙ sym (ap (map g) next ∙ map-append g (take i ys) (get_or ys i d ∷ []))

-- what holds of each one, and of one more, holds of all
all_of_one : {A : Type 0} (P : A → Type 0) (x : A) → P x → All P (x ∷ [])
all_of_one P x one zero d h = one
all_of_one P x one (suc k) d h = absurd omega (arith, h)

pub all_more : {A : Type 0} (P : A → Type 0) (xs : List A) (x : A) → All P xs → P x → All P (xs ++ x ∷ [])
all_more P xs x each one = All-append P xs (x ∷ []) each (all_of_one P x one)
