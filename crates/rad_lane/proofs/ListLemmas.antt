-- Filters of lists, and fronts of lists that are cut off.
use Rattle.std.proofs.Common.{◌≡◌, ℕ, zero, suc, ◌+◌, ◌<◌, ◌≤◌, Bool, true, false, cond, List, [], ◌∷◌, ◌++◌, length, get_or, set, take, drop, Option, Some, refl, sym, ap, ◌∙◌, subst, arith, length-append}
use Rattle.std.specs.Prelude.{map as each, All, AllPairs, filter, find, not, swap}
use Rattle.std.specs.List.{range_with_len}
use Rattle.std.specs.List.Sorted.{IsPermutation, IsStrictlyIncreasing}
use Rattle.std.proofs.lemmas.List.{length-take-le, append-nil, get_or-append-add, get_or_append_left, get_or-map, length-map, take_at, drop_at, take-append-drop}
use Rattle.std.proofs.lemmas.List.Elements.{All-head, All-tail, filter-append, filter_more}
use Rattle.std.proofs.Math.Seq.{drop-cons}
use Rattle.std.proofs.lemmas.List.Kept.{AllPairs-filter, AllPairs-from_increasing}
use Rattle.std.proofs.lemmas.List.Sorted.{IsPermutation-refl, IsPermutation-trans, IsPermutation-cons, IsPermutation-middle, IsPermutation-keeps}

module _ {X : Type 0} (p : X → Bool) where
  cons_by : (b : Bool) (x : X) (us vs : List X) → IsPermutation us vs → IsPermutation (cond b (x ∷ us) us) (cond b (x ∷ vs) vs)
  cons_by true x us vs h = IsPermutation-cons x us vs h
  cons_by false x us vs h = h

  two_by : (a b : Bool) (x y : X) (us : List X) → IsPermutation (cond a (x ∷ cond b (y ∷ us) us) (cond b (y ∷ us) us)) (cond b (y ∷ cond a (x ∷ us) us) (cond a (x ∷ us) us))
  two_by true true x y us = IsPermutation-middle (x ∷ []) y us
  two_by true false x y us = IsPermutation-refl (x ∷ us)
  two_by false true x y us = IsPermutation-refl (y ∷ us)
  two_by false false x y us = IsPermutation-refl us

  -- an item before a list changes its place with one of the list
  exchanged : (xs : List X) (j : ℕ) (x d : X) → j < length xs → IsPermutation (filter p (x ∷ xs)) (filter p (get_or xs j d ∷ set xs j x))
  exchanged [] j x d within = absurd (omega arith)
  exchanged (y ∷ ys) zero x d within = two_by (p x) (p y) x y (filter p ys)
  exchanged (y ∷ ys) (suc j) x d within =
      IsPermutation-trans _ _ _ (two_by (p x) (p y) x y (filter p ys))
      (IsPermutation-trans _ _ _ (cons_by (p y) y (filter p (x ∷ ys)) (filter p (get_or ys j d ∷ set ys j x)) (exchanged ys j x d (omega arith)))
      (two_by (p y) (p (get_or ys j d)) y (get_or ys j d) (filter p (set ys j x))))

  swapped : (xs : List X) (i j : ℕ) (d : X) → i < length xs → j < length xs → IsPermutation (filter p xs) (filter p (set (set xs i (get_or xs j d)) j (get_or xs i d)))
  swapped [] i j d here there = absurd (omega arith)
  swapped (x ∷ xs) zero zero d here there = IsPermutation-refl (filter p (x ∷ xs))
  swapped (x ∷ xs) zero (suc j) d here there = exchanged xs j x d (omega arith)
  swapped (x ∷ xs) (suc i) zero d here there = exchanged xs i x d (omega arith)
  swapped (x ∷ xs) (suc i) (suc j) d here there = cons_by (p x) x (filter p xs) (filter p (set (set xs i (get_or xs j d)) j (get_or xs i d))) (swapped xs i j d (omega arith) (omega arith))

  swapped_as : (xs : List X) (i j : ℕ) → i < length xs → j < length xs → IsPermutation (filter p xs) (filter p (swap xs i j))
  swapped_as [] i j here there = absurd (omega arith)
  swapped_as (x ∷ xs) i j here there = swapped (x ∷ xs) i j x here there

  -- a list in another order passes a filter in another order
  pub IsPermutation-filter : (xs ys : List X) → IsPermutation xs ys → IsPermutation (filter p xs) (filter p ys)
  IsPermutation-filter xs ys h =
      IsPermutation-keeps xs (λ l. IsPermutation (filter p xs) (filter p l)) (IsPermutation-refl (filter p xs))
      (λ l i j here there so. IsPermutation-trans (filter p xs) (filter p l) (filter p (swap l i j)) so (swapped_as l i j here there)) ys h

  none_by : (b : Bool) (x : X) (xs : List X) → b ≡ false → xs ≡ [] → cond b (x ∷ xs) xs ≡ []
  none_by true x xs e h = cc
  none_by false x xs e h = h

  pub filter_none : (xs : List X) → All (λ x. p x ≡ false) xs → filter p xs ≡ []
  filter_none [] h = refl
  filter_none (x ∷ xs) h = none_by (p x) x (filter p xs) (All-head (λ x. p x ≡ false) x xs h) (filter_none xs (All-tail (λ x. p x ≡ false) x xs h))

  all_by : (b : Bool) (x : X) (us xs : List X) → b ≡ true → us ≡ xs → cond b (x ∷ us) us ≡ x ∷ xs
  all_by true x us xs e h = ap (λ vs. x ∷ vs) h
  all_by false x us xs e h = cc

  pub filter_all : (xs : List X) → All (λ x. p x ≡ true) xs → filter p xs ≡ xs
  filter_all [] h = refl
  filter_all (x ∷ xs) h = all_by (p x) x (filter p xs) xs (All-head (λ x. p x ≡ true) x xs h) (filter_all xs (All-tail (λ x. p x ≡ true) x xs h))

  -- a filter of the front of a list that is one item longer, where the item passes or not
  pub filter_takes : (xs : List X) (i : ℕ) (x : X) → i < length xs → x ≡ get_or xs i x → p x ≡ true → filter p (take (i + 1) xs) ≡ filter p (take i xs) ++ x ∷ []
  filter_takes xs i x within is passes =
      filter_more p xs i x within
      ∙ ap (λ y. filter p (take i xs) ++ cond (p y) (y ∷ []) []) (sym is)
      ∙ ap (λ b. filter p (take i xs) ++ cond b (x ∷ []) []) passes

  pub filter_skips : (xs : List X) (i : ℕ) (x : X) → i < length xs → x ≡ get_or xs i x → p x ≡ false → filter p (take (i + 1) xs) ≡ filter p (take i xs)
  filter_skips xs i x within is fails =
      filter_more p xs i x within
      ∙ ap (λ y. filter p (take i xs) ++ cond (p y) (y ∷ []) []) (sym is)
      ∙ ap (λ b. filter p (take i xs) ++ cond b (x ∷ []) []) fails
      ∙ append-nil (filter p (take i xs))

  -- a filter of the rest of a list that begins with an item, where the item passes or not
  filter_at : (xs : List X) (i : ℕ) (x : X) → i < length xs → x ≡ get_or xs i x → filter p (drop i xs) ≡ cond (p x) (x ∷ filter p (drop (i + 1) xs)) (filter p (drop (i + 1) xs))
  filter_at xs i x within is =
      let next : suc i ≡ i + 1 = omega arith in
      ap (λ ys. filter p ys) (drop-cons xs i x within ∙ ap (λ y. y ∷ drop (suc i) xs) (sym is) ∙ ap (λ k. x ∷ drop k xs) next)

  pub rest_takes : (xs : List X) (i : ℕ) (x : X) → i < length xs → x ≡ get_or xs i x → p x ≡ true → filter p (drop i xs) ≡ x ∷ filter p (drop (i + 1) xs)
  rest_takes xs i x within is passes = filter_at xs i x within is ∙ ap (λ b. cond b (x ∷ filter p (drop (i + 1) xs)) (filter p (drop (i + 1) xs))) passes

  pub rest_skips : (xs : List X) (i : ℕ) (x : X) → i < length xs → x ≡ get_or xs i x → p x ≡ false → filter p (drop i xs) ≡ filter p (drop (i + 1) xs)
  rest_skips xs i x within is fails = filter_at xs i x within is ∙ ap (λ b. cond b (x ∷ filter p (drop (i + 1) xs)) (filter p (drop (i + 1) xs))) fails

  -- where nothing in the rest passes, the front has all that does
  pub filter_front : (xs : List X) (n : ℕ) → filter p (drop n xs) ≡ [] → filter p (take n xs) ≡ filter p xs
  filter_front xs n none =
      sym (append-nil (filter p (take n xs)))
      ∙ ap (λ l. filter p (take n xs) ++ l) (sym none)
      ∙ sym (filter-append p (take n xs) (drop n xs))
      ∙ ap (λ l. filter p l) (take-append-drop n xs)

  others_by : (b : Bool) (x : X) (us vs xs : List X) → cond b (x ∷ us) us ≡ [] → (us ≡ [] → vs ≡ xs) → cond (not b) (x ∷ vs) vs ≡ x ∷ xs
  others_by true x us vs xs h rest = cc
  others_by false x us vs xs h rest = ap (λ l. x ∷ l) (rest h)

  -- where nothing passes, the others are all
  pub others_all : (xs : List X) → filter p xs ≡ [] → filter (λ x. not (p x)) xs ≡ xs
  others_all [] h = refl
  others_all (x ∷ xs) h = others_by (p x) x (filter p xs) (filter (λ y. not (p y)) xs) xs h (others_all xs)

  found_by : (test : X → Bool) (t b : Bool) (x : X) (us xs : List X) → t ≡ test x → (t ≡ true → b ≡ true) → find test us ≡ find test xs → find test (cond b (x ∷ us) us) ≡ cond (test x) (Some x) (find test xs)
  found_by test t true x us xs is passes h = ap (λ o. cond (test x) (Some x) o) h
  found_by test true false x us xs is passes h = let never : false ≡ true = passes refl in cc
  found_by test false false x us xs is passes h = h ∙ ap (λ b. cond b (Some x) (find test xs)) is

  -- what is looked for passes the filter
  pub find-filter : (test : X → Bool) → ((x : X) → test x ≡ true → p x ≡ true) → (xs : List X) → find test (filter p xs) ≡ find test xs
  find-filter test passes [] = refl
  find-filter test passes (x ∷ xs) = found_by test (test x) (p x) x (filter p xs) xs refl (passes x) (find-filter test passes xs)

module _ {X Y : Type 0} (p : Y → Bool) (f : X → Y) where
  mapped_by : (b : Bool) (x : X) (us : List Y) (xs : List X) → us ≡ each f xs → cond b (f x ∷ us) us ≡ each f (cond b (x ∷ xs) xs)
  mapped_by true x us xs h = ap (λ vs. f x ∷ vs) h
  mapped_by false x us xs h = h

  pub filter-map : (xs : List X) → filter p (each f xs) ≡ each f (filter (λ x. p (f x)) xs)
  filter-map [] = refl
  filter-map (x ∷ xs) = mapped_by (p (f x)) x (filter p (each f xs)) (filter (λ x. p (f x)) xs) (filter-map xs)

pub range-append : (from m n : ℕ) → range_with_len from (m + n) ≡ range_with_len from m ++ range_with_len (from + m) n
range-append from zero n =
    let none : 0 + n ≡ n = omega arith in
    let here : from + 0 ≡ from = omega arith in
    ap (λ k. range_with_len from k) none ∙ ap (λ k. range_with_len k n) (sym here)
range-append from (suc m) n =
    let more : suc m + n ≡ suc (m + n) = omega arith in
    let next : from + 1 + m ≡ from + suc m = omega arith in
    ap (λ k. range_with_len from k) more
    ∙ ap (λ numbers. from ∷ numbers) (range-append (from + 1) m n)
    ∙ ap (λ k. from ∷ (range_with_len (from + 1) m ++ range_with_len k n)) next

-- two lists that are joined alike from parts of one length
pub parts_same : {X : Type 0} (us vs xs ys : List X) → length us ≡ length xs → us ++ vs ≡ xs ++ ys → (us ≡ xs) × (vs ≡ ys)
parts_same us vs xs ys same h = (
  sym (take_at us vs (length xs) same) ∙ ap (λ zs. take (length xs) zs) h ∙ take_at xs ys (length xs) refl,
  sym (drop_at us vs (length xs) same) ∙ ap (λ zs. drop (length xs) zs) h ∙ drop_at xs ys (length xs) refl,
)

module _ {X : Type 0} (test : X → Bool) (P : X → Type 0) where
  one_found : (b : Bool) (x y : X) (rest : Option X) → b ≡ test x → P x → (rest ≡ Some y → P y × (test y ≡ true)) → cond b (Some x) rest ≡ Some y → P y × (test y ≡ true)
  one_found true x y rest is here behind h =
      let same : x ≡ y = cc in
      (subst P same here, subst (λ z. test z ≡ true) same (sym is))
  one_found false x y rest is here behind h = behind h

  -- what is found passes the test, and has what all have
  pub found_holds : (xs : List X) (y : X) → All P xs → find test xs ≡ Some y → P y × (test y ≡ true)
  found_holds [] y all h = cc
  found_holds (x ∷ xs) y all h = one_found (test x) x y (find test xs) refl (All-head P x xs all) (found_holds xs y (All-tail P x xs all)) h

pub All-unmap : {X Y : Type 0} (P : Y → Type 0) (f : X → Y) (xs : List X) → All P (each f xs) → All (λ x. P (f x)) xs
All-unmap P f xs h k d within =
    let counted = length-map xs f in
    subst P (get_or-map f xs k d (f d) within) (h k (f d) (omega (arith, counted, within)))

module _ {X : Type 0} (xs ys : List X) where
  pub All-left : (P : X → Type 0) → All P (xs ++ ys) → All P xs
  All-left P h k d within =
      let joined = length-append xs ys in
      subst P (get_or_append_left xs ys d k within) (h k d (omega (arith, joined, within)))

  pub All-right : (P : X → Type 0) → All P (xs ++ ys) → All P ys
  All-right P h k d within =
      let joined = length-append xs ys in
      subst P (get_or-append-add xs ys k d) (h (length xs + k) d (omega (arith, joined, within)))

  pub AllPairs-right : (R : X → X → Type 0) → AllPairs R (xs ++ ys) → AllPairs R ys
  AllPairs-right R h i j d before within =
      let joined = length-append xs ys in
      subst (λ x. R x (get_or ys j d)) (get_or-append-add xs ys i d)
      (subst (λ y. R (get_or (xs ++ ys) (length xs + i) d) y) (get_or-append-add xs ys j d)
      (h (length xs + i) (length xs + j) d (omega (arith, before)) (omega (arith, joined, within))))

-- numbers that rise do so still where some items are left out
module _ {X : Type 0} (number : X → ℕ) where
  pairs_by : (xs : List X) → AllPairs (λ m n. m < n) (each number xs) → AllPairs (λ x y. number x < number y) xs
  pairs_by xs h i j d before within =
      let first = get_or-map number xs i d (number d) (omega (arith, before, within)) in
      let second = get_or-map number xs j d (number d) within in
      let counted = length-map xs number in
      let rise = h i j (number d) before (omega (arith, counted, within)) in
      rw (← first, ← second) rise

  pub pairs_rise : (xs : List X) → IsStrictlyIncreasing (each number xs) → AllPairs (λ x y. number x < number y) xs
  pairs_rise xs h = pairs_by xs (AllPairs-from_increasing (each number xs) h)

  rise_by : (xs : List X) → AllPairs (λ x y. number x < number y) xs → IsStrictlyIncreasing (each number xs)
  rise_by [] h k within = absurd (omega arith)
  rise_by (x ∷ xs) h k within =
      let counted = length-map (x ∷ xs) number in
      let first = get_or-map number (x ∷ xs) k x 0 (omega (arith, counted, within)) in
      let second = get_or-map number (x ∷ xs) (k + 1) x 0 (omega (arith, counted, within)) in
      rw (first, second) (h k (k + 1) x (omega arith) (omega (arith, counted, within)))

  pub rises-filter : (p : X → Bool) (xs : List X) → IsStrictlyIncreasing (each number xs) → IsStrictlyIncreasing (each number (filter p xs))
  rises-filter p xs h =
      rise_by (filter p xs) (AllPairs-filter (λ x y. number x < number y) p xs (pairs_rise xs h))

pub take_less : {X : Type 0} (i n : ℕ) (xs : List X) → i ≤ n → take i (take n xs) ≡ take i xs
take_less zero n xs h = refl
take_less (suc i) zero xs h = absurd (omega arith)
take_less (suc i) (suc n) [] h = refl
take_less (suc i) (suc n) (x ∷ xs) h = ap (λ ys. x ∷ ys) (take_less i n xs (omega arith))

pub no_items : {X : Type 0} (xs : List X) → length xs ≡ 0 → xs ≡ []
no_items [] h = refl
no_items (x ∷ xs) h = absurd (omega arith)

-- the length of the front of a list that is read twice
pub front_counted : {X : Type 0} (n : ℕ) (first again xs : List X) → n ≤ length first → first ≡ xs → again ≡ xs → n ≡ length (take n again)
front_counted n first again xs within is same = rw same (sym (length-take-le n xs (rw is at within)))
