-- A list with one more entry at its end, and the look-ups beside it.
use Rattle.std.proofs.Common.{◌≡◌, ℕ, suc, Bool, true, false, cond, List, [], ◌∷◌, ◌++◌, length, Option, Some, None, option_map, refl, sym, ap, subst, ◌∙◌, inl, inr, BTreeMap, nat_cmp, is_eq, Bor}
use Rattle.std.specs.Prelude.{find, option_and_then, option_copied, IfSome}
use Rattle.std.specs.List.{slice_get}
use Rattle.std.specs.Str.{bytes_eq}
use Rattle.std.specs.Cmp.Lexicographic.{slice_cmp}
use Rattle.std.specs.BTreeMap as tree
use Rattle.std.proofs.lemmas.Bool.{cases_Bool}
use Rattle.std.proofs.lemmas.Slice.Eq.{bytes_eq-Decides}
use Rattle.std.proofs.lemmas.Map.Text.{is_eq-slice_cmp}
use Rattle.rad_config.specs.Configuration.{ClientEntry}
use Rattle.rad_config.specs.Realm.{or_else}
use Rattle.rad_config.specs.internal.Index.{place_of, IndexesClients}

-- ---- places

found_next : {X : Type 0} (x : X) (xs : List X) (o : Option ℕ) → option_and_then (slice_get xs) o ≡ option_and_then (slice_get (x ∷ xs)) (option_map (λ i. suc i) o)
found_next x xs None = refl
found_next x xs (Some i) = refl

-- what stands at the place of the first that passes is the first that passes
pub find-place_of : {X : Type 0} (p : X → Bool) (xs : List X) → find p xs ≡ option_and_then (slice_get xs) (place_of p xs)
find-place_of p [] = refl
find-place_of p (x ∷ xs) =
    elim (p x) as (λ b. cond b (Some x) (find p xs) ≡ option_and_then (slice_get (x ∷ xs)) (cond b (Some 0) (option_map (λ i. suc i) (place_of p xs)))) [
      | true ↦ refl
      | false ↦ find-place_of p xs ∙ found_next x xs (place_of p xs)
    ]

pub or_none : {A : Type 0} (o : Option A) → o ≡ or_else o None
or_none None = refl
or_none (Some x) = refl

place_next : (n : ℕ) (b : Bool) (o : Option ℕ) → option_map (λ i. suc i) (or_else o (cond b (Some n) None)) ≡ or_else (option_map (λ i. suc i) o) (cond b (Some (suc n)) None)
place_next n true None = refl
place_next n false None = refl
place_next n b (Some i) = refl

-- the place of the first that passes, where one more stands at the end
pub place_of-push : {X : Type 0} (p : X → Bool) (xs : List X) (y : X) → place_of p (xs ++ y ∷ []) ≡ or_else (place_of p xs) (cond (p y) (Some (length xs)) None)
place_of-push p [] y = refl
place_of-push p (x ∷ xs) y =
    elim (p x) as (λ b. cond b (Some 0) (option_map (λ i. suc i) (place_of p (xs ++ y ∷ []))) ≡ or_else (cond b (Some 0) (option_map (λ i. suc i) (place_of p xs))) (cond (p y) (Some (suc (length xs))) None)) [
      | true ↦ refl
      | false ↦ ap (option_map (λ i. suc i)) (place_of-push p xs y) ∙ place_next (length xs) (p y) (place_of p xs)
    ]

-- the first that passes, where one more stands at the end
pub find-push : {X : Type 0} (p : X → Bool) (xs : List X) (y : X) → find p (xs ++ y ∷ []) ≡ or_else (find p xs) (cond (p y) (Some y) None)
find-push p [] y = refl
find-push p (x ∷ xs) y =
    elim (p x) as (λ b. cond b (Some x) (find p (xs ++ y ∷ [])) ≡ or_else (cond b (Some x) (find p xs)) (cond (p y) (Some y) None)) [
      | true ↦ refl
      | false ↦ find-push p xs y
    ]

-- a place is there just where an entry is found
no_place : {X : Type 0} (p : X → Bool) (xs : List X) → find p xs ≡ None → place_of p xs ≡ None
no_place p [] e = refl
no_place p (x ∷ xs) e =
    (elim (p x) as (λ b. cond b (Some x) (find p xs) ≡ None → cond b (Some 0) (option_map (λ i. suc i) (place_of p xs)) ≡ None) [
      | true ↦ λ (h : Some x ≡ None). absurd cc
      | false ↦ λ (h : find p xs ≡ None). ap (option_map (λ i. suc i)) (no_place p xs h)
    ]) e

-- ---- clients

-- the look-up of a new client's address, and of all others
pub client_pushed : (m n : BTreeMap (List ℕ) ℕ) (clients : List ClientEntry) (c : ClientEntry) → IndexesClients m clients
    → ((q : List ℕ) → tree.get (slice_cmp nat_cmp) n q ≡ cond (is_eq (slice_cmp nat_cmp c.address q)) (Some (length clients)) (tree.get (slice_cmp nat_cmp) m q))
    → find (λ k. bytes_eq k.address c.address) clients ≡ None
    → IndexesClients n (clients ++ c ∷ [])
client_pushed m n clients c indexes updates new a =
    updates a ∙ rw (is_eq-slice_cmp c.address a, indexes a, place_of-push (λ k. bytes_eq k.address a) clients c)
    (elim (cases_Bool (bytes_eq c.address a)) [
      | inl same ↦
          let e : c.address ≡ a = (bytes_eq-Decides c.address a).0 same in
          let none : place_of (λ k. bytes_eq k.address a) clients ≡ None = subst (λ (x : List ℕ). place_of (λ k. bytes_eq k.address x) clients ≡ None) e (no_place (λ k. bytes_eq k.address c.address) clients new) in
          rw (same, none) refl
      | inr other ↦ rw other (or_none (place_of (λ k. bytes_eq k.address a) clients))
    ])

-- the client of an address is the one at the place that is kept for it
pub client_found : (m : BTreeMap (List ℕ) ℕ) (clients : List ClientEntry) (a : List ℕ) (place : Option ℕ) → IndexesClients m clients → place ≡ tree.get (slice_cmp nat_cmp) m a
    → find (λ k. bytes_eq k.address a) clients ≡ option_and_then (slice_get clients) place
client_found m clients a place indexes e =
    find-place_of (λ k. bytes_eq k.address a) clients ∙ ap (option_and_then (slice_get clients)) (sym (indexes a) ∙ sym e)

pub client_pushed_as : (m n : BTreeMap (List ℕ) ℕ) (clients items : List ClientEntry) (c : ClientEntry) (key : List ℕ) (place : ℕ) → IndexesClients m clients → key ≡ c.address → place ≡ length clients → items ≡ clients ++ c ∷ []
    → ((q : List ℕ) → tree.get (slice_cmp nat_cmp) n q ≡ cond (is_eq (slice_cmp nat_cmp key q)) (Some place) (tree.get (slice_cmp nat_cmp) m q))
    → find (λ k. bytes_eq k.address c.address) clients ≡ None
    → IndexesClients n items
client_pushed_as m n clients items c key place indexes same_key same_place grown updates new =
    rw grown (client_pushed m n clients c indexes (λ q. rw (← same_key, ← same_place) (updates q)) new)

pub same_some : {X : Type 0} (x y : X) → Some x ≡ Some y → x ≡ y
same_some x y e = cc

find-passes : {X : Type 0} (p : X → Bool) (xs : List X) (y : X) → find p xs ≡ Some y → p y ≡ true
find-passes p [] y e = absurd cc
find-passes p (x ∷ xs) y e =
    elim (cases_Bool (p x)) [
      | inl first ↦
          let same : x ≡ y = same_some x y (rw first at e) in
          subst (λ (z : _). p z ≡ true) same first
      | inr other ↦ find-passes p xs y (rw other at e)
    ]

-- the client that is found has the address
pub client_has_address : (r : Option (Bor ClientEntry)) (clients : List ClientEntry) (a : List ℕ) → option_copied r ≡ find (λ k. bytes_eq k.address a) clients → IfSome r (λ c. c.now.address ≡ a)
client_has_address None clients a e = tt
client_has_address (Some c) clients a e = (bytes_eq-Decides c.now.address a).0 (find-passes (λ k. bytes_eq k.address a) clients c.now (sym e))
