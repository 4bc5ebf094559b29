-- What edges show of the numbers in their set.
use Rattle.std.proofs.Common.{◌≡◌, ◌≢◌, ◌↔◌, ◌⊎◌, inl, inr, ℕ, zero, suc, ◌+◌, ◌%◌, ◌<◌, ◌≤◌, ◌^◌, Bool, true, false, not, leb, ltb, eqb, List, [], ◌∷◌, ◌++◌, length, get_or, take, drop, Ok, Err, refl, sym, ap, ◌∙◌, subst, arith}
use Rattle.std.specs.Prelude.{IsTrue, ⊤, Result, IsOk, is_ok, if◌then◌else◌}
use Rattle.std.specs.List.{All, AllPairs, Contains, insert, remove}
use Rattle.std.proofs.lemmas.Bool.{le-leb, lt-leb, ltb-true, ltb-false, lt-ltb, le-ltb}
use Rattle.std.proofs.lemmas.List.Edits.{get_or-remove_above, length-remove}
use Rattle.std.proofs.lemmas.List.Quantifiers.{all_pairs_remove}
use Rattle.ledger_rules.specs.Edges.{flipped, is_in, IsPlace, IsRising}

-- ---- one edge more or less

pub flipped_twice : (a b : Bool) → flipped a (flipped a b) ≡ b
flipped_twice true true = refl
flipped_twice true false = refl
flipped_twice false b = refl

flipped_past : (a b c : Bool) → flipped a (flipped b c) ≡ flipped b (flipped a c)
flipped_past true true c = refl
flipped_past true false c = refl
flipped_past false b c = refl

pub in_inserted : (es : List ℕ) (i e n : ℕ) → is_in (insert es i e) n ≡ flipped (leb e n) (is_in es n)
in_inserted es zero e n = refl
in_inserted [] (suc i) e n = refl
in_inserted (x ∷ es) (suc i) e n = ap (flipped (leb x n)) (in_inserted es i e n) ∙ flipped_past (leb x n) (leb e n) (is_in es n)

pub in_removed : (es : List ℕ) (i e n : ℕ) → i < length es → get_or es i 0 ≡ e → is_in (remove es i) n ≡ flipped (leb e n) (is_in es n)
in_removed [] i e n lt h = absurd (omega (arith, lt))
in_removed (x ∷ es) zero e n lt h = subst (λ y. is_in es n ≡ flipped (leb y n) (flipped (leb x n) (is_in es n))) h (sym (flipped_twice (leb x n) (is_in es n)))
in_removed (x ∷ es) (suc i) e n lt h = ap (flipped (leb x n)) (in_removed es i e n (omega (arith, lt)) h) ∙ flipped_past (leb x n) (leb e n) (is_in es n)

-- an insertion that had room
pub inserted : {T E : Type 0} (r : Result T E) (new more same : List ℕ) → IsOk r → new ≡ (if is_ok r then more else same) → new ≡ more
inserted (Ok x) new more same ok e = e
inserted (Err x) new more same ok e = absurd (cc)

-- ---- they rise

abbrev AreAbove : ℕ → List ℕ → Type 0
AreAbove low [] = ⊤
AreAbove low (edge ∷ edges) = (low < edge) × AreAbove low edges

abbrev Rise : List ℕ → Type 0
Rise [] = ⊤
Rise (edge ∷ edges) = AreAbove edge edges × Rise edges

above_at : (x : ℕ) (es : List ℕ) → AreAbove x es → (k d : ℕ) → k < length es → x < get_or es k d
above_at x [] a k d lt = absurd (omega (arith, lt))
above_at x (y ∷ es) a zero d lt = a.0
above_at x (y ∷ es) a (suc k) d lt = above_at x es a.1 k d (omega (arith, lt))

above_by : (x : ℕ) (es : List ℕ) → ((k : ℕ) → k < length es → x < get_or es k 0) → AreAbove x es
above_by x [] all = tt
above_by x (y ∷ es) all = (all 0 (omega arith), above_by x es (λ k lt. all (suc k) (omega (arith, lt))))

rise_by : (es : List ℕ) → IsRising es → Rise es
rise_by [] r = tt
rise_by (x ∷ es) r = (
  above_by x es (λ k lt. r 0 (suc k) 0 (omega arith) (omega (arith, lt))),
  rise_by es (λ i j d ij lt. r (suc i) (suc j) d (omega (arith, ij)) (omega (arith, lt))),
)

rising_by : (es : List ℕ) → Rise es → IsRising es
rising_by [] r i j d ij lt = absurd (omega (arith, lt))
rising_by (x ∷ es) r i zero d ij lt = absurd (omega (arith, ij))
rising_by (x ∷ es) r zero (suc j) d ij lt = above_at x es r.0 j d (omega (arith, lt))
rising_by (x ∷ es) r (suc i) (suc j) d ij lt = rising_by es r.1 i j d (omega (arith, ij)) (omega (arith, lt))

pub by_order : {P : Type 0} (i j : ℕ) → (i < j → P) → (j ≤ i → P) → P
by_order i zero less more = more (omega arith)
by_order zero (suc j) less more = less (omega arith)
by_order (suc i) (suc j) less more = by_order i j (λ l. less (omega (arith, l))) (λ m. more (omega (arith, m)))

pub rises : (es : List ℕ) → IsRising es → (i j : ℕ) → i ≤ j → j < length es → get_or es i 0 ≤ get_or es j 0
rises es r i j le lt = by_order i j
    (λ less. omega (arith, r i j 0 less lt))
    (λ more. let same : i ≡ j = omega (arith, more, le) in subst (λ (k : ℕ). get_or es i 0 ≤ get_or es k 0) same (omega arith))

above_inserted : (x : ℕ) (es : List ℕ) (i e : ℕ) → AreAbove x es → x < e → AreAbove x (insert es i e)
above_inserted x es zero e a l = (l, a)
above_inserted x [] (suc i) e a l = (l, tt)
above_inserted x (y ∷ es) (suc i) e a l = (a.0, above_inserted x es i e a.1 l)

rise_inserted : (es : List ℕ) (i e : ℕ) → Rise es → ((k : ℕ) → k < i → get_or es k 0 < e) → ((k : ℕ) → i ≤ k → k < length es → e < get_or es k 0) → Rise (insert es i e)
rise_inserted es zero e r low high = (above_by e es (λ k lt. high k (omega arith) lt), r)
rise_inserted [] (suc i) e r low high = (tt, tt)
rise_inserted (x ∷ es) (suc i) e r low high = (
  above_inserted x es i e r.0 (low 0 (omega arith)),
  rise_inserted es i e r.1 (λ k lt. low (suc k) (omega (arith, lt))) (λ k le lt. high (suc k) (omega (arith, le)) (omega (arith, lt))),
)

pub rising_inserted : (es : List ℕ) (i e : ℕ) → IsRising es → ((k : ℕ) → k < i → get_or es k 0 < e) → ((k : ℕ) → i ≤ k → k < length es → e < get_or es k 0) → IsRising (insert es i e)
rising_inserted es i e r low high = rising_by (insert es i e) (rise_inserted es i e (rise_by es r) low high)

-- ---- how many edges are not above a number

abbrev pub odd : ℕ → Bool
odd zero = false
odd (suc n) = not (odd n)

not_twice : (b : Bool) → not (not b) ≡ b
not_twice true = refl
not_twice false = refl

pub odd_by_rest : (n : ℕ) → eqb (n % 2) 1 ≡ odd n
odd_by_rest zero = refl
odd_by_rest (suc zero) = refl
odd_by_rest (suc (suc n)) =
    let same : suc (suc n) % 2 ≡ n % 2 = omega arith in
    ap (λ (r : ℕ). eqb r 1) same ∙ odd_by_rest n ∙ sym (not_twice (odd n))

none_in : (es : List ℕ) (n : ℕ) → ((k : ℕ) → k < length es → n < get_or es k 0) → is_in es n ≡ false
none_in [] n high = refl
none_in (x ∷ es) n high =
    ap (λ b. flipped b (is_in es n)) (lt-leb x n (high 0 (omega arith))) ∙ none_in es n (λ k lt. high (suc k) (omega (arith, lt)))

pub in_by_place : (es : List ℕ) (n i : ℕ) → i ≤ length es → ((k : ℕ) → k < i → get_or es k 0 ≤ n) → ((k : ℕ) → i ≤ k → k < length es → n < get_or es k 0) → is_in es n ≡ odd i
in_by_place es n zero le low high = none_in es n (λ k lt. high k (omega arith) lt)
in_by_place [] n (suc i) le low high = absurd (omega (arith, le))
in_by_place (x ∷ es) n (suc i) le low high =
    ap (λ b. flipped b (is_in es n)) (le-leb x n (low 0 (omega arith)))
    ∙ ap not (in_by_place es n i (omega (arith, le)) (λ k lt. low (suc k) (omega (arith, lt))) (λ k ik lt. high (suc k) (omega (arith, ik)) (omega (arith, lt))))

module _ (es : List ℕ) (rise : IsRising es) where
  -- ---- between two edges

  pub at_place : (n i : ℕ) → i ≤ length es → ((k : ℕ) → suc k ≡ i → get_or es k 0 ≤ n) → (i < length es → n < get_or es i 0) → is_in es n ≡ odd i
  at_place n zero le low high = in_by_place es n 0 le (λ k lt. absurd (omega (arith, lt))) (λ k ik lt. omega (arith, high (omega arith), rises es rise 0 k (omega arith) lt))
  at_place n (suc i) le low high =
      in_by_place es n (suc i) le (λ k lt. omega (arith, low i refl, rises es rise k i (omega (arith, lt)) (omega (arith, le))))
      (λ k ik lt. omega (arith, high (omega arith), rises es rise (suc i) k ik lt))

  -- ---- what a search shows

  module _ (n place : ℕ) where
    pub found_at : IsPlace es n (Ok place) → is_in es n ≡ eqb ((place + 1) % 2) 1
    found_at p =
        at_place n (place + 1) (omega (arith, p.0)) (λ k e. let same : k ≡ place = omega (arith, e) in subst (λ (j : ℕ). get_or es j 0 ≤ n) (sym same) (omega (arith, p.1)))
        (λ lt. omega (arith, rise place (place + 1) 0 (omega arith) lt, p.1))
        ∙ sym (odd_by_rest (place + 1))

    pub lacking_at : IsPlace es n (Err place) → is_in es n ≡ eqb (place % 2) 1
    lacking_at p = in_by_place es n place p.0 (λ k l. omega (arith, p.1 k l)) p.2 ∙ sym (odd_by_rest place)

    pub found_flips : IsPlace es n (Ok place) → (new : List ℕ) → new ≡ remove es place → (m : ℕ) → is_in new m ≡ flipped (leb n m) (is_in es m)
    found_flips p new e m = ap (λ xs. is_in xs m) e ∙ in_removed es place n m p.0 p.1

    pub found_rises : IsPlace es n (Ok place) → (new : List ℕ) → new ≡ remove es place → IsRising new
    found_rises p new e = subst IsRising (sym e) (all_pairs_remove (λ (a : ℕ) (b : ℕ). a < b) es place p.0 rise)

    pub lacking_flips : (new : List ℕ) → new ≡ insert es place n → (m : ℕ) → is_in new m ≡ flipped (leb n m) (is_in es m)
    lacking_flips new e m = ap (λ xs. is_in xs m) e ∙ in_inserted es place n m

    pub lacking_rises : IsPlace es n (Err place) → (new : List ℕ) → new ≡ insert es place n → IsRising new
    lacking_rises p new e = subst IsRising (sym e) (rising_inserted es place n rise p.1 p.2)

  -- ---- the two lowest ranges

  module _ (few : 2 < length es) where
    merged : List ℕ
    merged = remove (remove es 1) 1

    pub merged_rises : (middle new : List ℕ) → middle ≡ remove es 1 → new ≡ remove middle 1 → IsRising new
    merged_rises middle new e f =
        let first : IsRising middle = subst IsRising (sym e) (all_pairs_remove (λ (a : ℕ) (b : ℕ). a < b) es 1 (omega (arith, few)) rise) in
        let length_of : length middle + 1 ≡ length es = ap (λ xs. length xs + 1) e ∙ length-remove es 1 (omega (arith, few)) in
        subst IsRising (sym f) (all_pairs_remove (λ (a : ℕ) (b : ℕ). a < b) middle 1 (omega (arith, length_of, few)) first)

    pub merged_same : (middle new : List ℕ) → middle ≡ remove es 1 → new ≡ remove middle 1 → (n : ℕ) → get_or es 2 0 ≤ n → is_in new n ≡ is_in es n
    merged_same middle new e f n le =
        let length_of : length middle + 1 ≡ length es = ap (λ xs. length xs + 1) e ∙ length-remove es 1 (omega (arith, few)) in
        let next : get_or middle 1 0 ≡ get_or es 2 0 = ap (λ xs. get_or xs 1 0) e ∙ get_or-remove_above es 1 0 1 (omega arith) (omega (arith, few)) in
        let below : get_or es 1 0 ≤ n = omega (arith, rise 1 2 0 (omega arith) few, le) in
        let second : is_in new n ≡ not (is_in middle n) =
        ap (λ xs. is_in xs n) f ∙ in_removed middle 1 (get_or es 2 0) n (omega (arith, length_of, few)) next ∙ ap (λ b. flipped b (is_in middle n)) (le-leb (get_or es 2 0) n le) in
        let first : is_in middle n ≡ not (is_in es n) =
        ap (λ xs. is_in xs n) e ∙ in_removed es 1 (get_or es 1 0) n (omega (arith, few)) refl ∙ ap (λ b. flipped b (is_in es n)) (le-leb (get_or es 1 0) n below) in
        second ∙ ap not first ∙ not_twice (is_in es n)

  -- ---- whether they are those of one range from 0 on

  module _ (count : ℕ) (fits : (i : ℕ) → i < length es → get_or es i 0 < 2 ^ 64) (bounded : count < 2 ^ 64) where
    abbrev pub IsRange : Type 0
    IsRange = (n : ℕ) → n < 2 ^ 64 → is_in es n ≡ ltb n count

    pub none_by : length es ≡ 0 → (count ≡ 0) ↔ IsRange
    none_by long = (
      λ e n lt. at_place n 0 (omega arith) (λ k f. absurd (omega (arith, f))) (λ l. absurd (omega (arith, l, long))) ∙ sym (le-ltb n count (omega (arith, e))),
      λ all. let is : false ≡ ltb 0 count = sym (at_place 0 0 (omega arith) (λ k f. absurd (omega (arith, f))) (λ l. absurd (omega (arith, l, long)))) ∙ all 0 (omega arith) in
          omega (arith, ltb-false 0 count (sym is)),
    )

    pub not_one : length es ≡ 1 → ¬ IsRange
    not_one long all =
        let first : ℕ = get_or es 0 0 in
        let one : (n : ℕ) → get_or es 0 0 ≤ n → n < 2 ^ 64 → n < count =
        λ n le lt. ltb-true n count (sym (sym (at_place n 1 (omega (arith, long)) (λ k e. let same : k ≡ 0 = omega (arith, e) in subst (λ (j : ℕ). get_or es j 0 ≤ n) (sym same) le) (λ l. absurd (omega (arith, l, long)))) ∙ all n lt)) in
        by_order (get_or es 0 0) count (λ less. omega (arith, one count (omega (arith, less)) bounded)) (λ more. omega (arith, one (get_or es 0 0) (omega arith) (fits 0 (omega (arith, long))), more))

    pub not_more : 3 ≤ length es → ¬ IsRange
    not_more long all =
        let even : is_in es (get_or es 1 0) ≡ false =
        at_place (get_or es 1 0) 2 (omega (arith, long)) (λ k e. let same : k ≡ 1 = omega (arith, e) in subst (λ (j : ℕ). get_or es j 0 ≤ get_or es 1 0) (sym same) (omega arith))
        (λ lt. rise 1 2 0 (omega arith) lt) in
        let uneven : is_in es (get_or es 2 0) ≡ true =
        at_place (get_or es 2 0) 3 (omega (arith, long)) (λ k e. let same : k ≡ 2 = omega (arith, e) in subst (λ (j : ℕ). get_or es j 0 ≤ get_or es 2 0) (sym same) (omega arith))
        (λ lt. rise 2 3 0 (omega arith) lt) in
        omega (
          arith,
          ltb-false (get_or es 1 0) count (sym (sym even ∙ all (get_or es 1 0) (fits 1 (omega (arith, long))))),
          ltb-true (get_or es 2 0) count (sym (sym uneven ∙ all (get_or es 2 0) (fits 2 (omega (arith, long))))),
          rise 1 2 0 (omega arith) (omega (arith, long)),
        )

    pub not_range : length es ≢ 0 → length es ≢ 2 → ¬ IsRange
    not_range some other all =
        by_order (length es) 2 (λ less. not_one (omega (arith, less, some)) all) (λ more. not_more (omega (arith, more, other)) all)

    module _ (long : length es ≡ 2) where
      below_first : (n : ℕ) → n < get_or es 0 0 → is_in es n ≡ false
      below_first n lt = at_place n 0 (omega arith) (λ k e. absurd (omega (arith, e))) (λ _. lt)

      between : (n : ℕ) → get_or es 0 0 ≤ n → n < get_or es 1 0 → is_in es n ≡ true
      between n le lt = at_place n 1 (omega (arith, long)) (λ k e. let same : k ≡ 0 = omega (arith, e) in subst (λ (j : ℕ). get_or es j 0 ≤ n) (sym same) le) (λ _. lt)

      behind : (n : ℕ) → get_or es 1 0 ≤ n → is_in es n ≡ false
      behind n le =
          at_place n 2 (omega (arith, long)) (λ k e. let same : k ≡ 1 = omega (arith, e) in subst (λ (j : ℕ). get_or es j 0 ≤ n) (sym same) le) (λ l. absurd (omega (arith, l, long)))

      two_rise : get_or es 0 0 < get_or es 1 0
      two_rise = rise 0 1 0 (omega arith) (omega (arith, long))

      pub range_by : get_or es 0 0 ≡ 0 → get_or es 1 0 ≡ count → IsRange
      range_by first last n lt =
          by_order n count (λ less. between n (omega (arith, first)) (omega (arith, less, last)) ∙ sym (lt-ltb n count less))
          (λ more. behind n (omega (arith, more, last)) ∙ sym (le-ltb n count more))

      first_below : IsRange → get_or es 0 0 < count
      first_below all = ltb-true (get_or es 0 0) count (sym (sym (between (get_or es 0 0) (omega arith) two_rise) ∙ all (get_or es 0 0) (fits 0 (omega (arith, long)))))

      pub first_by : IsRange → get_or es 0 0 ≡ 0
      first_by all =
          by_order 0 (get_or es 0 0)
          (λ above. absurd (omega (arith, first_below all, ltb-false 0 count (sym (sym (below_first 0 above) ∙ all 0 (omega arith))))))
          (λ not_above. omega (arith, not_above))

      pub last_by : IsRange → get_or es 1 0 ≡ count
      last_by all =
          let last : count ≤ get_or es 1 0 = ltb-false (get_or es 1 0) count (sym (sym (behind (get_or es 1 0) (omega arith)) ∙ all (get_or es 1 0) (fits 1 (omega (arith, long))))) in
          by_order count (get_or es 1 0)
          (λ less. absurd (omega (arith, ltb-true count count (sym (sym (between count (omega (arith, first_below all)) less) ∙ all count bounded)))))
          (λ more. omega (arith, last, more))
