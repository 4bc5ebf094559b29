-- Words with tabs between, in parts.
use Rattle.std.proofs.Common.{◌≡◌, ◌∙◌, ℕ, ◌<◌, List, [], ◌∷◌, ◌++◌, length, Some, refl, ap, append_assoc, arith}
use Rattle.std.specs.Fmt.{decimal}
use Rattle.rad_audit.specs.Cells.{value_cell}
use Rattle.rad_audit.specs.Rows.{facts_words, name_words, state_word, with_tabs, words_of}
use Rattle.rad_audit.specs.declared.rows.Row.{Row}

with_tabs_append : (x : List ℕ) (xs : List (List ℕ)) (y : List ℕ) (ys : List (List ℕ)) → with_tabs (x ∷ xs) ++ 9 ∷ with_tabs (y ∷ ys) ≡ with_tabs ((x ∷ xs) ++ (y ∷ ys))
with_tabs_append x [] y ys = refl
with_tabs_append x (z ∷ zs) y ys =
    append_assoc x (9 ∷ with_tabs (z ∷ zs)) (9 ∷ with_tabs (y ∷ ys)) ∙ ap (λ (rest : List ℕ). x ++ 9 ∷ rest) (with_tabs_append z zs y ys)

parts : (xs ys : List (List ℕ)) → 0 < length xs → 0 < length ys → with_tabs xs ++ 9 ∷ with_tabs ys ≡ with_tabs (xs ++ ys)
parts [] ys l m = absurd (omega arith)
parts (x ∷ xs) [] l m = absurd (omega arith)
parts (x ∷ xs) (y ∷ ys) l m = with_tabs_append x xs y ys

-- a row, with its name and its facts as texts of their own
pub row_is : (row : Row) → value_cell (Some row.place.file.now) ++ 9 ∷ (decimal row.place.line ++ 9 ∷ (with_tabs (name_words row.name) ++ 9 ∷ (with_tabs (facts_words row.facts) ++ 9 ∷ state_word row.state))) ≡ with_tabs (words_of row)
row_is row =
    let back = parts (facts_words row.facts) (state_word row.state ∷ []) (omega arith) (omega arith) in
    let all = parts (name_words row.name) (facts_words row.facts ++ state_word row.state ∷ []) (omega arith) (omega arith) in
    ap (λ (rest : List ℕ). value_cell (Some row.place.file.now) ++ 9 ∷ (decimal row.place.line ++ 9 ∷ rest))
    (ap (λ (rest : List ℕ). with_tabs (name_words row.name) ++ 9 ∷ rest) back ∙ all)
