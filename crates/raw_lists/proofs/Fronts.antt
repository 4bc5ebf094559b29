-- A row holds a front of some items, and still does where the items and the row change alike.
use Rattle.std.proofs.Common.{◌≡◌, ℕ, zero, suc, ◌<◌, ◌≤◌, List, [], ◌∷◌, ◌++◌, Some, refl, sym, ap, ◌∙◌, arith, length, get_or, set, take, drop, slice_get}
use Rattle.std.proofs.lemmas.List.{take-append-le, take-set-le}

module _ {T : Type 0} where
  -- a front is no longer than the items
  pub front_short : (front items : List T) → front ≡ take (length front) items → length front ≤ length items
  front_short [] items e = omega arith
  front_short (x ∷ front) [] e = absurd (omega (arith, ap length e))
  front_short (x ∷ front) (y ∷ items) e = let tails : front ≡ take (length front) items = ap (drop 1) e in omega (arith, front_short front items tails)

  pub all_taken : (n : ℕ) (items : List T) → length items ≤ n → take n items ≡ items
  all_taken zero [] le = refl
  all_taken zero (x ∷ items) le = absurd (omega arith)
  all_taken (suc n) [] le = refl
  all_taken (suc n) (x ∷ items) le = ap (λ l. x ∷ l) (all_taken n items (omega arith))

  -- a front that is as long as the items is the items
  pub front_whole : (front items : List T) → front ≡ take (length front) items → length items ≤ length front → front ≡ items
  front_whole front items e le = e ∙ all_taken (length front) items le

  pub more_taken : (n : ℕ) (items : List T) (x : T) → slice_get items n ≡ Some x → take (suc n) items ≡ take n items ++ x ∷ []
  more_taken n [] x e = cc
  more_taken zero (y ∷ items) x e = let is : y ≡ x = cc in ap (λ z. z ∷ []) is
  more_taken (suc n) (y ∷ items) x e = ap (λ l. y ∷ l) (more_taken n items x e)

  pub length_more : (front : List T) (x : T) → length (front ++ x ∷ []) ≡ suc (length front)
  length_more [] x = refl
  length_more (y ∷ front) x = ap suc (length_more front x)

  -- the next item is copied
  pub front_more : (front items : List T) (x : T) → front ≡ take (length front) items → slice_get items (length front) ≡ Some x → front ++ x ∷ [] ≡ take (length (front ++ x ∷ [])) items
  front_more front items x e there =
      ap (λ l. l ++ x ∷ []) e ∙ sym (more_taken (length front) items x there) ∙ ap (λ n. take n items) (sym (length_more front x))

  -- an item is put behind the items
  pub front_pushed : (front items : List T) (x : T) → front ≡ take (length front) items → front ≡ take (length front) (items ++ x ∷ [])
  front_pushed front items x e = e ∙ sym (take-append-le (length front) items (x ∷ []) (front_short front items e))

  -- the first items are dropped in both
  pub front_dropped : (n : ℕ) (front items : List T) → front ≡ take (length front) items → drop n front ≡ take (length (drop n front)) (drop n items)
  front_dropped zero front items e = e
  front_dropped (suc n) [] items e = refl
  front_dropped (suc n) (x ∷ front) [] e = absurd (omega (arith, ap length e))
  front_dropped (suc n) (x ∷ front) (y ∷ items) e = front_dropped n front items (ap (drop 1) e)

  -- an item is put in the place of another
  pub front_set : (front items : List T) (i : ℕ) (x : T) → front ≡ take (length front) items → set front i x ≡ take (length (set front i x)) (set items i x)
  front_set [] items i x e = refl
  front_set (z ∷ front) [] i x e = absurd (omega (arith, ap length e))
  front_set (z ∷ front) (y ∷ items) zero x e = ap (λ l. x ∷ l) (ap (drop 1) e)
  front_set (z ∷ front) (y ∷ items) (suc i) x e =
      let first : z ≡ y = ap (λ l. get_or l 0 z) e in
      (λ k. first k ∷ front_set front items i x (ap (drop 1) e) k)

  -- one behind the front
  pub front_set_behind : (front items : List T) (i : ℕ) (x : T) → length front ≤ i → front ≡ take (length front) items → front ≡ take (length front) (set items i x)
  front_set_behind front items i x le e = e ∙ sym (take-set-le (length front) items i x le)

  pub item_at : (items : List T) (i : ℕ) → i < length items → (item : T) × (slice_get items i ≡ Some item)
  item_at [] i lt = absurd (omega arith)
  item_at (item ∷ items) zero lt = (item, refl)
  item_at (item ∷ items) (suc i) lt = item_at items i (omega arith)

  -- one item more is dropped
  pub drop_popped : (n next : ℕ) (items rest : List T) (x : T) → next ≡ suc n → drop n items ≡ x ∷ rest → rest ≡ drop next items
  drop_popped n zero items rest x e is = absurd (omega (arith, e))
  drop_popped zero (suc next) items rest x e is =
      let none : next ≡ zero = omega (arith, e) in sym (ap (drop 1) is) ∙ ap (λ k. drop (suc k) items) (sym none)
  drop_popped (suc n) (suc next) [] rest x e is = absurd (omega (arith, ap length is))
  drop_popped (suc n) (suc next) (y ∷ items) rest x e is = drop_popped n next items rest x (omega (arith, e)) is

  pub some_left : (n : ℕ) (items : List T) → n < length items → 0 < length (drop n items)
  some_left n [] lt = absurd (omega arith)
  some_left zero (x ∷ items) lt = omega arith
  some_left (suc n) (x ∷ items) lt = some_left n items (omega arith)

  -- what was read at a place within
  pub read_is : (items : List T) (i : ℕ) (x d : T) → i < length items → x ≡ get_or items i x → x ≡ get_or items i d
  read_is [] i x d lt e = absurd (omega arith)
  read_is (y ∷ items) zero x d lt e = e
  read_is (y ∷ items) (suc i) x d lt e = read_is items i x d (omega arith) e
