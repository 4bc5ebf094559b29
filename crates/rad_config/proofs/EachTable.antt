-- What is kept where tables are read one after the other.
use Rattle.std.proofs.Common.{◌≡◌, ◌+◌, List, [], ◌∷◌, ◌++◌, length, Result, Ok, refl, subst, arith, length-append}
use Rattle.toml.specs.Data.{Members}
use Rattle.rad_config.specs.declared.reading.faults.ConfigFault.{ConfigFault}
use Rattle.rad_config.specs.Walk.{each}
use Rattle.rad_config.proofs.Steps.{same_ok, bound}

module _ {X : Type 0} (read : List X → Members → Result X ConfigFault) where
  -- what one more entry keeps, all keep
  pub each_keeps : (P : List X → Type 0) → ((xs : List X) (t : Members) (x : X) → P xs → read xs t ≡ Ok x → P (xs ++ x ∷ []))
      → (xs : List X) (ts : List Members) (ys : List X) → P xs → each read xs ts ≡ Ok ys → P ys
  unfolding each
  each_keeps P more xs [] ys p e = subst P (same_ok xs ys (Ok xs) refl e) p
  each_keeps P more xs (t ∷ ts) ys p e =
      let step = bound (read xs t) (λ x. each read (xs ++ x ∷ []) ts) ys e in
      each_keeps P more (xs ++ step.0 ∷ []) ts ys (more xs t step.0 p step.1) step.2

  pub each_counts : (xs : List X) (ts : List Members) (ys : List X) → each read xs ts ≡ Ok ys → length ys ≡ length xs + length ts
  unfolding each
  each_counts xs [] ys e = rw (← same_ok xs ys (Ok xs) refl e) (omega arith)
  each_counts xs (t ∷ ts) ys e =
      let step = bound (read xs t) (λ x. each read (xs ++ x ∷ []) ts) ys e in
      let rest = each_counts (xs ++ step.0 ∷ []) ts ys step.2 in
      let one : length (xs ++ step.0 ∷ []) ≡ length xs + 1 = length-append xs (step.0 ∷ []) in
      omega (arith, rest, one)
