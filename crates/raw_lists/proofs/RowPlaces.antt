-- What a row's places hold after one of them is written or read.
use Rattle.std.proofs.Common.{◌≡◌, ℕ, zero, suc, ◌+◌, ◌-◌, ◌<◌, ◌≤◌, List, [], ◌∷◌, ◌++◌, Option, Some, None, refl, sym, ap, ◌∙◌, subst, arith, length, get_or, set, slice_get, length-append}
use Rattle.std.proofs.lemmas.List.{length-set, set-set}
use Rattle.raw_lists.specs.Places.{laid, values, IsFilled, IsRow}
use Rattle.raw_lists.proofs.Places.{values-laid, length-laid, laid-empty, behind, pushed-laid, popped-laid, ahead, fronted-laid, get-laid}

module _ {T : Type 0} where
  laid-none : (start rest : ℕ) → laid {T = T} start [] rest ≡ laid 0 [] (start + rest)
  laid-none start rest = laid-empty start rest

  first_of_at : (items : List T) (index : ℕ) → index < length items → (item : T) × (slice_get items index ≡ Some item)
  first_of_at [] index lt = absurd (omega arith)
  first_of_at (item ∷ items) zero lt = (item, refl)
  first_of_at (item ∷ items) (suc index) lt = first_of_at items index (omega arith)

  first_of : (items : List T) → 0 < length items → (item : T) × (rest : List T) × (items ≡ item ∷ rest)
  first_of [] some = absurd (omega arith)
  first_of (item ∷ rest) some = (item, rest, refl)

  pub set-laid : (start : ℕ) (items : List T) (rest index at : ℕ) (item : T) → at ≡ start + index → index < length items
      → set (laid start items rest) at (Some item) ≡ laid start (set items index item) rest
  unfolding laid
  set-laid zero [] rest index at item e lt = absurd (omega arith)
  set-laid zero (first ∷ items) rest zero zero item e lt = refl
  set-laid zero (first ∷ items) rest zero (suc at) item e lt = absurd (omega arith)
  set-laid zero (first ∷ items) rest (suc index) zero item e lt = absurd (omega arith)
  set-laid zero (first ∷ items) rest (suc index) (suc at) item e lt = ap (λ l. Some first ∷ l) (set-laid zero items rest index at item (omega arith) (omega arith))
  set-laid (suc start) items rest index zero item e lt = absurd (omega arith)
  set-laid (suc start) items rest index (suc at) item e lt = ap (λ l. None ∷ l) (set-laid start items rest index at item (omega arith) lt)

  -- places laid out with these items are a row's
  pub is_row : (n start count rest : ℕ) (items : List T) (places : List (Option T)) → places ≡ laid start items rest → count ≡ length items → start + count + rest ≡ n → 1 ≤ n
      → IsRow n start count places × (values places ≡ items)
  is_row n start count rest items places e counted all some =
      let held : values places ≡ items = ap values e ∙ values-laid start items rest in
      let long : length places ≡ n = ap length e ∙ length-laid start items rest ∙ omega arith in
      let left : rest ≡ length places - (start + count) = omega arith in (
        record {
          run = record {
            laid_out = e ∙ ap (λ n. laid start items n) left ∙ ap (λ l. laid start l (length places - (start + count))) (sym held);
            counted = counted ∙ ap length (sym held);
            within = omega arith;
            some = omega arith;
          };
          all = long;
        },
        held,
      )

  pub row_new : (n : ℕ) (places : List (Option T)) → 1 ≤ n → places ≡ laid 0 [] n → IsRow n 0 0 places × (values places ≡ [])
  row_new n places some e = is_row n 0 0 n [] places e refl (omega arith) some

  module _ (n start count : ℕ) (places : List (Option T)) (row : IsRow n start count places) where
    pub inside : start + count ≤ n
    inside = let w = row.run.within in let a = row.all in omega arith

    pub laid_here : places ≡ laid start (values places) (n - (start + count))
    laid_here = row.run.laid_out ∙ ap (λ k. laid start (values places) (k - (start + count))) row.all

    pub all_empty : values places ≡ [] → places ≡ laid 0 [] n
    all_empty none =
        let c = row.run.counted ∙ ap length none in let w = inside in
        laid_here ∙ ap (λ l. laid start l (n - (start + count))) none ∙ laid-none start (n - (start + count)) ∙ ap (λ k. laid 0 [] k) (omega arith)

    pub room_behind : 1 ≤ n - (start + count) → (start + count < length places) × (get_or places (start + count) None ≡ None)
    room_behind room =
        let l = row.all in
        (omega arith, ap (λ l. get_or l (start + count) None) laid_here ∙ behind start (values places) (n - (start + count)) (start + count) (ap (λ k. start + k) row.run.counted))

    pub row_pushed : 1 ≤ n - (start + count) → (item : T) (new : List (Option T)) → new ≡ set places (start + count) (Some item)
        → IsRow n start (count + 1) new × (values new ≡ values places ++ item ∷ [])
    row_pushed room item new e =
        let one : n - (start + count) ≡ suc (n - (start + count) - 1) = omega arith in
        let here : places ≡ laid start (values places) (suc (n - (start + count) - 1)) = laid_here ∙ ap (λ k. laid start (values places) k) one in
        let c = row.run.counted in let w = inside in
        is_row n start (count + 1) (n - (start + count) - 1) (values places ++ item ∷ []) new
        (e ∙ ap (λ l. set l (start + count) (Some item)) here ∙ pushed-laid start (values places) (n - (start + count) - 1) (start + count) item (ap (λ k. start + k) row.run.counted))
        (omega (arith, length-append (values places) (item ∷ []))) (omega arith) (omega arith)

    pub room_ahead : 1 ≤ start → (start - 1 < length places) × (get_or places (start - 1) None ≡ None)
    room_ahead some =
        let l = row.all in let w = inside in let one : start ≡ suc (start - 1) = omega arith in (
          omega arith,
          ap (λ l. get_or l (start - 1) None) laid_here
              ∙ ap (λ k. get_or (laid k (values places) (n - (start + count))) (start - 1) None) one
              ∙ ahead (start - 1) (values places) (n - (start + count)),
        )

    pub row_fronted : 1 ≤ start → (item : T) (new : List (Option T)) → new ≡ set places (start - 1) (Some item)
        → IsRow n (start - 1) (count + 1) new × (values new ≡ item ∷ values places)
    row_fronted some item new e =
        let one : start ≡ suc (start - 1) = omega arith in
        let here : places ≡ laid (suc (start - 1)) (values places) (n - (start + count)) = laid_here ∙ ap (λ k. laid k (values places) (n - (start + count))) one in
        let c = row.run.counted in let w = inside in
        is_row n (start - 1) (count + 1) (n - (start + count)) (item ∷ values places) new
        (e ∙ ap (λ l. set l (start - 1) (Some item)) here ∙ fronted-laid (start - 1) item (values places) (n - (start + count)))
        (omega (arith, c)) (omega arith) (omega arith)

    pub shown_at : (index : ℕ) → index < length (values places) → get_or places (start + index) None ≡ slice_get (values places) index
    shown_at index lt = ap (λ l. get_or l (start + index) None) laid_here ∙ get-laid start (values places) (n - (start + count)) index (start + index) refl lt

    pub filled_at : (index : ℕ) → index < length (values places) → IsFilled places (start + index)
    filled_at index lt =
        let item = first_of_at (values places) index lt in
        (item.0, shown_at index lt ∙ item.1)

    pub first_filled : 0 < length (values places) → IsFilled places start
    first_filled some =
        let f = filled_at 0 some in let none : start + 0 ≡ start = omega arith in
        (f.0, ap (λ k. get_or places k None) (sym none) ∙ f.1)

    pub row_popped : (item : T) (new : List (Option T)) → 0 < length (values places) → get_or places start None ≡ Some item → new ≡ set places start None
        → IsRow n (start + 1) (count - 1) new × (values places ≡ item ∷ values new)
    row_popped item new some got e =
        let f = first_of (values places) some in
        let here : places ≡ laid start (f.0 ∷ f.1) (n - (start + count)) = laid_here ∙ ap (λ l. laid start l (n - (start + count))) f.2 in
        let c : count ≡ suc (length f.1) = row.run.counted ∙ ap length f.2 in let w = inside in
        let made = is_row n (suc start) (count - 1) (n - (start + count)) f.1 new (e ∙ ap (λ l. set l start None) here ∙ popped-laid start f.0 f.1 (n - (start + count))) (omega arith) (omega arith) (omega arith) in
        let same : Some f.0 ≡ Some item = sym (get-laid start (f.0 ∷ f.1) (n - (start + count)) 0 start (omega arith) (omega arith)) ∙ ap (λ l. get_or l start None) (sym here) ∙ got in
        let one : suc start ≡ start + 1 = omega arith in let is : f.0 ≡ item = cc in
        (subst (λ k. IsRow n k (count - 1) new) one made.0, f.2 ∙ (λ i. is i ∷ sym made.1 i))

    pub row_replaced : (index : ℕ) (item : T) (new : List (Option T)) → index < length (values places) → new ≡ set (set places (start + index) None) (start + index) (Some item)
        → IsRow n start count new × (values new ≡ set (values places) index item)
    row_replaced index item new lt e =
        let w = inside in let c = row.run.counted in
        is_row n start count (n - (start + count)) (set (values places) index item) new
        (e ∙ set-set places (start + index) None (Some item) ∙ ap (λ l. set l (start + index) (Some item)) laid_here ∙ set-laid start (values places) (n - (start + count)) index (start + index) item refl lt)
        (row.run.counted ∙ sym (length-set (values places) index item)) (omega arith) (omega arith)
