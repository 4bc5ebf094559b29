-- Two lists are at least as far from each other as their lengths.
use Rattle.std.proofs.Common.{◌≡◌, ℕ, zero, suc, ◌+◌, ◌<◌, ◌≤◌, nat_eq, Bool, false, List, [], ◌∷◌, length, arith}
use Rattle.std.proofs.lemmas.Bool.Decides.{nat_tests}
use Rattle.std.specs.Int.{abs_diff}
use Rattle.strsim.specs.Edits.{next_row, rows, cost_at, levenshtein_row}
use Rattle.rad_advice.specs.Telling.{distance, is_near}

-- in the row after so many elements
abbrev IsFar : ℕ → (ℕ → ℕ) → Type 0
IsFar n row = (j : ℕ) → (n ≤ row j + j) × (j ≤ row j + n)

next_far : (c before : ℕ → ℕ) (n : ℕ) → IsFar n before → IsFar (suc n) (next_row c before (suc n))
unfolding next_row
next_far c before n far zero = (omega arith, omega arith)
next_far c before n far (suc j) =
    let left = next_far c before n far j in
    let corner = far j in
    let above = far (suc j) in
    (omega (arith, left.0, corner.0, above.0), omega (arith, left.1, corner.1, above.1))

module _ {X : Type 0} (eq : X → X → Bool) (ys : List X) where
  rows_far : (xs : List X) (n : ℕ) (before : ℕ → ℕ) → IsFar n before → IsFar (length xs + n) (rows eq xs ys n before)
  unfolding rows
  rows_far [] n before far j = let here = far j in (omega (arith, here.0), omega (arith, here.1))
  rows_far (x ∷ xs) n before far j =
      let rest = rows_far xs (suc n) (next_row (cost_at eq x ys) before (suc n)) (next_far (cost_at eq x ys) before n far) j in
      (omega (arith, rest.0), omega (arith, rest.1))

  pub first_longer : (xs : List X) → length xs ≤ levenshtein_row eq xs ys (length ys) + length ys
  first_longer xs = let far = rows_far xs 0 (λ j. j) (λ j. (omega arith, omega arith)) (length ys) in omega (arith, far.0)

  pub second_longer : (xs : List X) → length ys ≤ levenshtein_row eq xs ys (length ys) + length xs
  second_longer xs = let far = rows_far xs 0 (λ j. j) (λ j. (omega arith, omega arith)) (length ys) in omega (arith, far.1)

-- more than two edits are between lists whose lengths differ by more than two
pub far_apart : (known name : List ℕ) (apart : ℕ) → apart ≡ abs_diff (length known) (length name) → 2 < apart → false ≡ is_near known name
far_apart known name apart e lt =
    let one = first_longer nat_eq name known in
    let two = second_longer nat_eq name known in
    let far : 2 < distance known name = omega (arith, one, two, e) in
    grind (arith, nat_tests, far)
