-- The entries of a finite map after a change, in any order of the keys that tells them apart. Proofs of
-- the crates above cite them, as of the slots' entries.
use Rattle.std.proofs.Common.{◌≡◌, Bool, true, false, cond, List, [], ◌∷◌, map, Option, Ordering, Some, None, is_some, refl, sym, ap, subst, ◌∙◌, arith}
use Rattle.std.specs.Prelude.{T, ◌&&◌}
use Rattle.std.specs.declared.cmp.Ordering.TheVariants.{Less, Equal, Greater}
use Rattle.std.specs.Option.{option_map}
use Rattle.std.specs.Ordering.{eq_by_cmp, is_eq, is_lt}
use Rattle.std.specs.Cmp.{IsTotalOrder, eq_by_cmp_equiv}
use Rattle.std.specs.FinMap.{FinMap, IsAntisymmetric, entries, values, entries_sorted, from_sorted, get, insert, remove, find, put, is_sorted, get-entries, entries-insert, entries-from_sorted, get-from_sorted, get-insert, get-remove, same_map}
use Rattle.std.specs.FinMap.Entries.{by_order, below_all}
use Rattle.std.specs.List.{filter_map, cons_option}
use Rattle.std.specs.List.Sorted.{IsPermutation}
use Rattle.std.proofs.lemmas.List.Sorted.{IsPermutation-refl, IsPermutation-cons, IsPermutation-trans, IsPermutation-swap}
use Rattle.std.proofs.lemmas.Bool.{false≢true}

swapped : {A : Type 0} (a b : A) (xs : List A) → IsPermutation (a ∷ b ∷ xs) (b ∷ a ∷ xs)
swapped a b xs = IsPermutation-swap (a ∷ b ∷ xs) (b ∷ a ∷ xs) 0 1 (omega arith) (omega arith) refl

is_none_of : {X : Type 0} (b : Bool) (x : X) (o : Option X) → cond b (Some x) o ≡ None → (b ≡ false) × (o ≡ None)
is_none_of true x o h = absurd (false≢true (sym (ap is_some h)))
is_none_of false x o h = (refl, h)

module _ {K X : Type 0} (R : K → K → Ordering) where
  put_absent : (k : K) (v : X) (es : List (K × X)) → find R k es ≡ None → IsPermutation (put R k v es) ((k, v) ∷ es)
  put_absent k v [] h = IsPermutation-refl _
  put_absent k v (e ∷ es) h =
      let apart = is_none_of (eq_by_cmp R k e.0) e.1 (find R k es) h in
      let rest = put_absent k v es apart.1 in
      elim (R k e.0) as (λ o. is_eq o ≡ false → IsPermutation (by_order o ((k, v) ∷ e ∷ es) ((e.0, v) ∷ es) (e ∷ put R k v es)) ((k, v) ∷ e ∷ es)) [
        | Less ↦ λ _. IsPermutation-refl _
        | Equal ↦ λ e. absurd (false≢true (sym e))
        | Greater ↦ λ _. IsPermutation-trans _ _ _ (IsPermutation-cons e (put R k v es) ((k, v) ∷ es) rest) (swapped e (k, v) es)
      ] apart.0

module _ {K X : Type 0} {R : K → K → Ordering} (o : IsTotalOrder R) where
  -- a new key comes to the entries
  pub entries-insert_absent : (m : FinMap R X) (k : K) (v : X) → get m k ≡ None → IsPermutation (entries (insert m k v)) ((k, v) ∷ entries m)
  entries-insert_absent m k v absent =
      subst (λ (es : List (K × X)). IsPermutation es ((k, v) ∷ entries m)) (sym (entries-insert o m k v))
      (put_absent R k v (entries m) (sym (get-entries m k) ∙ absent))

  keep : (b : Bool) (x : Option X) → cond b x x ≡ x
  keep true x = refl
  keep false x = refl

  back : (b : Bool) (v : X) (x : Option X) → (b ≡ true → x ≡ Some v) → x ≡ cond b (Some v) (cond b None x)
  back true v x h = h refl
  back false v x h = refl

  -- a map is the one without an entry, with that entry put back
  pub put_back : IsAntisymmetric R → (m : FinMap R X) (k : K) (v : X) → get m k ≡ Some v → m ≡ insert (remove m k) k v
  put_back same m k v there =
      let one : (q : K) → eq_by_cmp R q k ≡ true → q ≡ k = λ q e. same q k (is_equal _ e) in
      same_map o same _ _ (λ q.
      back (eq_by_cmp R q k) v (get m q) (λ e. ap (get m) (one q e) ∙ there)
      ∙ ap (cond (eq_by_cmp R q k) (Some v)) (sym (get-remove o m k q))
      ∙ sym (get-insert o (remove m k) k v q))
    where
      is_equal : (r : Ordering) → is_eq r ≡ true → r ≡ Equal
      is_equal Less e = absurd (false≢true e)
      is_equal Equal e = refl
      is_equal Greater e = absurd (false≢true e)

  twice : (b : Bool) (v x : Option X) → cond b v x ≡ cond b v (cond b None x)
  twice true v x = refl
  twice false v x = refl

  -- an entry at a key that is put anew
  pub insert_anew : IsAntisymmetric R → (m : FinMap R X) (k : K) (v : X) → insert m k v ≡ insert (remove m k) k v
  insert_anew same m k v =
      same_map o same _ _ (λ q.
      get-insert o m k v q
      ∙ twice (eq_by_cmp R q k) (Some v) (get m q)
      ∙ ap (cond (eq_by_cmp R q k) (Some v)) (sym (get-remove o m k q))
      ∙ sym (get-insert o (remove m k) k v q))

  pub removed_absent : (m : FinMap R X) (k : K) → get (remove m k) k ≡ None
  removed_absent m k = get-remove o m k k ∙ ap (λ b. cond b None (get m k)) ((eq_by_cmp_equiv o).refl k)

  -- an entry leaves the entries
  pub entries-remove_present : IsAntisymmetric R → (m : FinMap R X) (k : K) (v : X) → get m k ≡ Some v → IsPermutation (entries m) ((k, v) ∷ entries (remove m k))
  entries-remove_present same m k v there =
      subst (λ (n : FinMap R X). IsPermutation (entries n) ((k, v) ∷ entries (remove m k))) (sym (put_back same m k v there))
      (entries-insert_absent (remove m k) k v (removed_absent m k))

-- what a choice gives of the values of a map
module _ {K X Y : Type 0} (R : K → K → Ordering) (h : X → Option Y) where
  abbrev given_by : List (K × X) → List Y
  given_by es = filter_map h (map (λ e. e.1) es)

  -- one item more in front of both, or none
  both_more : (x : Option Y) (xs ys : List Y) → IsPermutation xs ys → IsPermutation (cons_option x xs) (cons_option x ys)
  both_more None xs ys p = p
  both_more (Some x) xs ys p = IsPermutation-cons x xs ys p

  either_first : (x y : Option Y) (xs : List Y) → IsPermutation (cons_option x (cons_option y xs)) (cons_option y (cons_option x xs))
  either_first None y xs = IsPermutation-refl _
  either_first (Some x) None xs = IsPermutation-refl _
  either_first (Some x) (Some y) xs = swapped x y xs

  put_given : (k : K) (v : X) (es : List (K × X)) → find R k es ≡ None → IsPermutation (given_by (put R k v es)) (cons_option (h v) (given_by es))
  put_given k v [] e = IsPermutation-refl _
  put_given k v (e ∷ es) none =
      let apart = is_none_of (eq_by_cmp R k e.0) e.1 (find R k es) none in
      let rest = put_given k v es apart.1 in
      elim (R k e.0) as (λ o. is_eq o ≡ false → IsPermutation (given_by (by_order o ((k, v) ∷ e ∷ es) ((e.0, v) ∷ es) (e ∷ put R k v es))) (cons_option (h v) (given_by (e ∷ es)))) [
        | Less ↦ λ _. IsPermutation-refl _
        | Equal ↦ λ e. absurd (false≢true (sym e))
        | Greater ↦ λ _. IsPermutation-trans _ _ _ (both_more (h e.1) _ _ rest) (either_first (h e.1) (h v) (given_by es))
      ] apart.0

  module _ (o : IsTotalOrder R) (same : IsAntisymmetric R) (m : FinMap R X) (k : K) where
    -- a new key brings what the choice gives of its value
    pub given-insert_absent : (v : X) → get m k ≡ None → IsPermutation (filter_map h (values (insert m k v))) (cons_option (h v) (filter_map h (values m)))
    given-insert_absent v absent =
        subst (λ (es : List (K × X)). IsPermutation (given_by es) (cons_option (h v) (given_by (entries m)))) (sym (entries-insert o m k v))
        (put_given k v (entries m) (sym (get-entries m k) ∙ absent))

    -- a key that leaves takes it away
    pub given-remove_present : (v : X) → get m k ≡ Some v → IsPermutation (filter_map h (values m)) (cons_option (h v) (filter_map h (values (remove m k))))
    given-remove_present v there =
        subst (λ (n : FinMap R X). IsPermutation (filter_map h (values n)) (cons_option (h v) (filter_map h (values (remove m k))))) (sym (put_back o same m k v there))
        (subst (λ (es : List (K × X)). IsPermutation (given_by es) (cons_option (h v) (given_by (entries (remove m k))))) (sym (entries-insert o (remove m k) k v))
        (put_given k v (entries (remove m k)) (sym (get-entries (remove m k) k) ∙ removed_absent o m k)))

module _ {K X Y : Type 0} (R : K → K → Ordering) (f : X → Y) where
  -- each entry with another value at its key
  abbrev pub with_values : List (K × X) → List (K × Y)
  with_values es = map (λ e. (e.0, f e.1)) es

  below_with_values : (k : K) (es : List (K × X)) → below_all R k (with_values es) ≡ below_all R k es
  below_with_values k [] = refl
  below_with_values k (e ∷ es) = ap (λ b. is_lt (R k e.0) && b) (below_with_values k es)

  sorted_with_values : (es : List (K × X)) → is_sorted R (with_values es) ≡ is_sorted R es
  sorted_with_values [] = refl
  sorted_with_values (e ∷ es) = ap (λ b. b && is_sorted R (with_values es)) (below_with_values e.0 es) ∙ ap (λ b. below_all R e.0 es && b) (sorted_with_values es)

  mapped : (b : Bool) (x : X) (o : Option X) → cond b (Some (f x)) (option_map f o) ≡ option_map f (cond b (Some x) o)
  mapped true x o = refl
  mapped false x o = refl

  find_with_values : (q : K) (es : List (K × X)) → find R q (with_values es) ≡ option_map f (find R q es)
  find_with_values q [] = refl
  find_with_values q (e ∷ es) = ap (cond (eq_by_cmp R q e.0) (Some (f e.1))) (find_with_values q es) ∙ mapped (eq_by_cmp R q e.0) e.1 (find R q es)

  -- each value is changed in its place
  pub entries-changed : IsTotalOrder R → IsAntisymmetric R → (m : FinMap R X) (n : FinMap R Y) → ((q : K) → get n q ≡ option_map f (get m q)) → entries n ≡ with_values (entries m)
  entries-changed o same m n h =
      let sorted : T (is_sorted R (with_values (entries m))) = subst T (sym (sorted_with_values (entries m))) (entries_sorted m) in
      let is : n ≡ from_sorted (with_values (entries m)) = same_map o same _ _ (λ q.
      h q ∙ ap (option_map f) (get-entries m q) ∙ sym (find_with_values q (entries m))
      ∙ sym (get-from_sorted R (with_values (entries m)) q sorted)) in
      ap entries is ∙ entries-from_sorted R (with_values (entries m)) sorted
