-- Items are parted by their numbers as they are moved out of a row, one after the other.
use Rattle.std.proofs.Common.{◌≡◌, ℕ, zero, suc, ◌<◌, ◌≤◌, Bool, true, false, cond, List, [], ◌∷◌, ◌++◌, refl, sym, ap, ◌∙◌, arith, inl, inr, length, take, drop}
use Rattle.std.specs.Prelude.{filter, not, nat_lt}
use Rattle.std.proofs.lemmas.Bool.Decides.{leb_tells}
use Rattle.std.proofs.lemmas.List.{append-nil, append_assoc, take-append-drop}
use Rattle.std.proofs.lemmas.List.Elements.{filter-append}
use Rattle.raw_lists.specs.Sliding.{below, since, is_below, IsFront}

test_since : (number bound : ℕ) → bound ≤ number → nat_lt number bound ≡ false
test_since number bound h = elim (leb_tells (suc number) bound) [ inl under ↦ absurd (omega (arith, under.1, h)) | inr over ↦ over.0 ]

test_below : (number bound : ℕ) → number < bound → nat_lt number bound ≡ true
test_below number bound h = elim (leb_tells (suc number) bound) [ inl under ↦ under.0 | inr over ↦ absurd (omega (arith, over.1, h)) ]

module _ {T : Type 0} where
  -- one item more is taken
  take_popped : (n next : ℕ) (items rest : List T) (x : T) → next ≡ suc n → drop n items ≡ x ∷ rest → take next items ≡ take n items ++ x ∷ []
  take_popped n zero items rest x e is = absurd (omega (arith, e))
  take_popped zero (suc next) items rest x e is =
      let none : next ≡ zero = omega (arith, e) in ap (λ k. take (suc k) items) none ∙ ap (λ l. take 1 l) is
  take_popped (suc n) (suc next) [] rest x e is = absurd (omega (arith, ap length is))
  take_popped (suc n) (suc next) (y ∷ items) rest x e is = ap (λ l. y ∷ l) (take_popped n next items rest x (omega (arith, e)) is)

  passed_or_not : (p : T → Bool) (done : List T) (x : T) (b : Bool) → p x ≡ b → filter p (done ++ x ∷ []) ≡ filter p done ++ cond b (x ∷ []) []
  passed_or_not p done x b is = filter-append p done (x ∷ []) ∙ ap (λ t. filter p done ++ cond t (x ∷ []) []) is

  -- a list that has what passes of the items taken so far
  more : (p : T → Bool) (start now next done : List T) (x : T) → now ≡ start ++ filter p done → next ≡ now ++ x ∷ [] → p x ≡ true → next ≡ start ++ filter p (done ++ x ∷ [])
  more p start now next done x so_far is passes =
      is ∙ ap (λ l. l ++ x ∷ []) so_far ∙ append_assoc start (filter p done) (x ∷ []) ∙ ap (λ l. start ++ l) (sym (passed_or_not p done x true passes))

  no_more : (p : T → Bool) (start now next done : List T) (x : T) → now ≡ start ++ filter p done → next ≡ now → p x ≡ false → next ≡ start ++ filter p (done ++ x ∷ [])
  no_more p start now next done x so_far is fails =
      is ∙ so_far ∙ ap (λ l. start ++ l) (sym (passed_or_not p done x false fails ∙ append-nil (filter p done)))

  module _ (number_of : T → ℕ) (number : ℕ) (items rest : List T) (n next : ℕ) (step : next ≡ suc n) (x : T) (first : drop n items ≡ x ∷ rest) (own : ℕ) (is : own ≡ number_of x) (start now then : List T) where
    taken_is : take n items ++ x ∷ [] ≡ take next items
    taken_is = sym (take_popped n next items rest x step first)

    under : own < number → is_below number_of number x ≡ true
    under h = ap (λ m. nat_lt m number) (sym is) ∙ test_below own number h

    over : number ≤ own → is_below number_of number x ≡ false
    over h = ap (λ m. nat_lt m number) (sym is) ∙ test_since own number h

    pub below_more : own < number → now ≡ start ++ below number_of number (take n items) → then ≡ now ++ x ∷ [] → then ≡ start ++ below number_of number (take next items)
    below_more h so_far becomes =
        more (is_below number_of number) start now then (take n items) x so_far becomes (under h)
        ∙ ap (λ l. start ++ below number_of number l) taken_is

    pub below_same : number ≤ own → now ≡ start ++ below number_of number (take n items) → then ≡ now → then ≡ start ++ below number_of number (take next items)
    below_same h so_far becomes =
        no_more (is_below number_of number) start now then (take n items) x so_far becomes (over h)
        ∙ ap (λ l. start ++ below number_of number l) taken_is

    pub since_more : number ≤ own → now ≡ start ++ since number_of number (take n items) → then ≡ now ++ x ∷ [] → then ≡ start ++ since number_of number (take next items)
    since_more h so_far becomes =
        more (λ y. not (is_below number_of number y)) start now then (take n items) x so_far becomes (ap not (over h))
        ∙ ap (λ l. start ++ since number_of number l) taken_is

    pub since_same : own < number → now ≡ start ++ since number_of number (take n items) → then ≡ now → then ≡ start ++ since number_of number (take next items)
    since_same h so_far becomes =
        no_more (λ y. not (is_below number_of number y)) start now then (take n items) x so_far becomes (ap not (under h))
        ∙ ap (λ l. start ++ since number_of number l) taken_is

  -- where no item of the rest is below a number, the front has all that are, and all of the rest stay
  none_by : (b : Bool) (x : T) (us vs xs : List T) → cond b (x ∷ us) us ≡ [] → (us ≡ [] → vs ≡ xs) → cond (not b) (x ∷ vs) vs ≡ x ∷ xs
  none_by true x us vs xs h rest = cc
  none_by false x us vs xs h rest = ap (λ l. x ∷ l) (rest h)

  all_since : (number_of : T → ℕ) (number : ℕ) (items : List T) → below number_of number items ≡ [] → since number_of number items ≡ items
  all_since number_of number [] h = refl
  all_since number_of number (x ∷ items) h = none_by (is_below number_of number x) x (below number_of number items) (since number_of number items) items h (all_since number_of number items)

  pub front_has_all : (number_of : T → ℕ) (number n : ℕ) (items : List T) → below number_of number (drop n items) ≡ [] → below number_of number (take n items) ≡ below number_of number items
  front_has_all number_of number n items none =
      sym (append-nil (below number_of number (take n items)))
      ∙ ap (λ l. below number_of number (take n items) ++ l) (sym none)
      ∙ sym (filter-append (is_below number_of number) (take n items) (drop n items))
      ∙ ap (λ l. below number_of number l) (take-append-drop n items)

  pub rest_stays : (number_of : T → ℕ) (number n : ℕ) (items : List T) → below number_of number (drop n items) ≡ [] → since number_of number (take n items) ++ drop n items ≡ since number_of number items
  rest_stays number_of number n items none =
      ap (λ l. since number_of number (take n items) ++ l) (sym (all_since number_of number (drop n items) none))
      ∙ sym (filter-append (λ x. not (is_below number_of number x)) (take n items) (drop n items))
      ∙ ap (λ l. since number_of number l) (take-append-drop n items)

  -- what is left of a front is a front of what is left
  none_of : (p : T → Bool) (xs ys : List T) → filter p (xs ++ ys) ≡ [] → filter p xs ≡ []
  none_of p [] ys h = refl
  none_of p (x ∷ xs) ys h = none_first (p x) x (filter p (xs ++ ys)) (filter p xs) h (none_of p xs ys)
    where
      none_first : (b : Bool) (x : T) (us vs : List T) → cond b (x ∷ us) us ≡ [] → (us ≡ [] → vs ≡ []) → cond b (x ∷ vs) vs ≡ []
      none_first true x us vs h rest = cc
      none_first false x us vs h rest = rest h

  pub front_none : (p : T → Bool) (n : ℕ) (front items : List T) → IsFront front items → filter p (drop n items) ≡ [] → filter p (drop n front) ≡ []
  front_none p zero front items e none =
      none_of p front (drop (length front) items) (ap (λ l. filter p (l ++ drop (length front) items)) e ∙ ap (λ l. filter p l) (take-append-drop (length front) items) ∙ none)
  front_none p (suc n) [] items e none = refl
  front_none p (suc n) (x ∷ front) [] e none = absurd (omega (arith, ap length e))
  front_none p (suc n) (x ∷ front) (y ∷ items) e none = front_none p n front items (ap (λ l. drop 1 l) e) none

  first_taken : (p : T → Bool) (xs ys : List T) → filter p xs ≡ take (length (filter p xs)) (filter p (xs ++ ys))
  first_taken p xs ys = sym (ap (λ l. take (length (filter p xs)) l) (filter-append p xs ys) ∙ at_its_end (filter p xs) (filter p ys))
    where
      at_its_end : (us vs : List T) → take (length us) (us ++ vs) ≡ us
      at_its_end [] vs = refl
      at_its_end (u ∷ us) vs = ap (λ l. u ∷ l) (at_its_end us vs)

  pub front_filtered : (p : T → Bool) (front items : List T) → IsFront front items → IsFront (filter p front) (filter p items)
  front_filtered p front items e =
      first_taken p front (drop (length front) items)
      ∙ ap (λ l. take (length (filter p front)) (filter p l)) (ap (λ l. l ++ drop (length front) items) e ∙ take-append-drop (length front) items)
