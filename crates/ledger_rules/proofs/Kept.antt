-- What a set of numbers shows of those that were put into it.
use Rattle.std.proofs.Common.{◌≡◌, ◌≢◌, ◌↔◌, ◌⊎◌, inl, inr, ℕ, ◌<◌, ◌≤◌, ◌^◌, Bool, true, false, not, ltb, eqb, List, [], ◌∷◌, ◌++◌, length, get_or, refl, sym, ap, ◌∙◌, subst, arith}
use Rattle.std.specs.Prelude.{IsTrue}
use Rattle.std.specs.List.{AllPairs, Contains}
use Rattle.std.proofs.lemmas.Bool.{ltb-true, lt-ltb}
use Rattle.std.proofs.lemmas.Bool.Decides.{eqb_tells}
use Rattle.std.proofs.lemmas.List.Elements.{Contains-get_or, Contains-push, Contains-push_cases, Contains-append_left}
use Rattle.std.proofs.lemmas.List.Quantifiers.{all_pairs_push}
use Rattle.ledger_rules.specs.Edges.{flipped, is_in}
use Rattle.ledger_rules.specs.Numbers.{IsEachOnce, IsKnown, Keeps}
use Rattle.ledger_rules.specs.declared.numbers.Numbers.{Numbers}

same_tests : (a b : Bool) → (IsTrue a → IsTrue b) → (IsTrue b → IsTrue a) → a ≡ b
same_tests true true f g = refl
same_tests true false f g = sym (f refl)
same_tests false true f g = g refl
same_tests false false f g = refl

is_false : (b : Bool) → ¬ IsTrue b → b ≡ false
is_false true n = absurd (n refl)
is_false false n = refl

-- ---- one more

module _ (old new : Numbers) (added : List ℕ) (y : ℕ) (fits : y < 2 ^ 64) (fresh : ¬ IsKnown old y) (later : old.exact_from ≤ new.exact_from)
    (adds : (n : ℕ) → n < 2 ^ 64 → is_in added n ≡ flipped (eqb y n) (is_in old.edges.items n))
    (same : (n : ℕ) → new.exact_from ≤ n → is_in new.edges.items n ≡ is_in added n) where
  module _ (all : List ℕ) (keeps : Keeps old all) where
    below_by : (n : ℕ) → (Contains all n ⊎ (y ≡ n)) → n < 2 ^ 64
    below_by n (inl there) = keeps.below n there
    below_by n (inr e) = subst (λ (m : ℕ). m < 2 ^ 64) e fits

    was_there : (n : ℕ) → y ≢ n → (Contains all n ⊎ (y ≡ n)) → Contains all n
    was_there n other (inl there) = there
    was_there n other (inr e) = absurd (other e)

    exact_by : (n : ℕ) → new.exact_from ≤ n → n < 2 ^ 64 → (((eqb y n ≡ true) × (y ≡ n)) ⊎ ((eqb y n ≡ false) × (y ≢ n))) → IsTrue (is_in new.edges.items n) ↔ Contains (all ++ y ∷ []) n
    exact_by n le lt (inl (test, e)) =
        let out : is_in old.edges.items n ≡ false = is_false (is_in old.edges.items n) (λ is. fresh (subst (IsKnown old) (sym e) (omega (arith, later, le), is))) in
        let is : is_in new.edges.items n ≡ true = same n le ∙ adds n lt ∙ ap (λ b. flipped b (is_in old.edges.items n)) test ∙ ap not out in
        (λ _. subst (Contains (all ++ y ∷ [])) e (Contains-push all y), λ _. is)
    exact_by n le lt (inr (test, other)) =
        let is : is_in new.edges.items n ≡ is_in old.edges.items n = same n le ∙ adds n lt ∙ ap (λ b. flipped b (is_in old.edges.items n)) test in
        let before : IsTrue (is_in old.edges.items n) ↔ Contains all n = keeps.exact n (omega (arith, later, le)) lt in (
          λ has. Contains-append_left all (y ∷ []) n (before.0 (sym is ∙ has)),
          λ there. is ∙ before.1 (was_there n other (Contains-push_cases all y n there)),
        )

    once_by : new.exact_from ≡ 0 → AllPairs (λ m n. m ≢ n) (all ++ y ∷ [])
    once_by zero =
        let none : old.exact_from ≡ 0 = omega (arith, zero, later) in
        let not_there : ¬ Contains all y = λ there. fresh (omega (arith, none), (keeps.exact y (omega (arith, none)) fits).1 there) in
        all_pairs_push (λ (m : ℕ) (n : ℕ). m ≢ n) all y (keeps.once none) (λ k d lt e. not_there (subst (Contains all) e (Contains-get_or all k d lt)))

    pub kept_with : Keeps new (all ++ y ∷ [])
    kept_with = record {
      below = λ n there. below_by n (Contains-push_cases all y n there);
      exact = λ n le lt. exact_by n le lt (eqb_tells y n);
      once = once_by;
    }

-- ---- all below a number

module _ (numbers : Numbers) (all : List ℕ) (keeps : Keeps numbers all) (none : numbers.exact_from ≡ 0) (count : ℕ) (bounded : count < 2 ^ 64) where
  which : (n : ℕ) → n < 2 ^ 64 → IsTrue (is_in numbers.edges.items n) ↔ Contains all n
  which n lt = keeps.exact n (omega (arith, none)) lt

  pub each_once : ((n : ℕ) → n < 2 ^ 64 → is_in numbers.edges.items n ≡ ltb n count) → IsEachOnce count all
  each_once range = record {
    which = λ n. (
      λ there. ltb-true n count (sym (range n (keeps.below n there)) ∙ (which n (keeps.below n there)).1 there),
      λ lt. (which n (omega (arith, lt, bounded))).0 (range n (omega (arith, lt, bounded)) ∙ lt-ltb n count lt),
    );
    once = keeps.once none;
  }

  pub range_of_each : IsEachOnce count all → (n : ℕ) → n < 2 ^ 64 → is_in numbers.edges.items n ≡ ltb n count
  range_of_each each n lt =
      same_tests (is_in numbers.edges.items n) (ltb n count) (λ is. lt-ltb n count ((each.which n).0 ((which n lt).0 is)))
      (λ is. (which n lt).1 ((each.which n).1 (ltb-true n count is)))
