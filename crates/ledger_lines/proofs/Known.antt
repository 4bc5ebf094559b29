-- Which keys of an object are known.
use Rattle.std.proofs.Common.{◌≡◌, ◌≢◌, ◌↔◌, ℕ, zero, suc, ◌+◌, ◌<◌, ◌≤◌, List, [], ◌∷◌, ◌++◌, length, get_or, take, map, Option, Some, None, MatchOption, Bool, true, false, IsTrue, refl, sym, ap, ◌∙◌, subst, arith}
use Rattle.std.specs.List.{All, AllByRecursion, Contains}
use Rattle.std.specs.Borrow.{Bor}
use Rattle.std.specs.Str.{bytes_eq}
use Rattle.std.proofs.lemmas.List.{get_or-map, length-map, take_more, take_all}
use Rattle.std.proofs.lemmas.Slice.Eq.{bytes_eq-Decides}
use Rattle.std.proofs.lemmas.List.Elements.{All-contains, All-from_get_or, All-push, Contains-get_or, recursion_from_All}
use Rattle.json.specs.Json.{Json, Members, object}
use Rattle.json.specs.Strict.{keys}
use Rattle.json.specs.Value.{members_view}
use Rattle.json.specs.declared.value.Value.{Value}
use Rattle.ledger_lines.specs.internal.Known.{IsAbsent}
use Rattle.ledger_lines.specs.Lines.{HasOnly}

-- ---- one key

module _ (known : List (List ℕ)) (key : List ℕ) where
  pub is_there : (place : ℕ) → place < length known → get_or known place [] ≡ key → Contains known key
  is_there place lt e = subst (Contains known) e (Contains-get_or known place [] lt)

  pub is_not_there : IsAbsent known 0 key → ¬ Contains known key
  is_not_there absent there = All-contains (λ text. text ≢ key) known key (All-from_get_or (λ text. text ≢ key) known [] (λ place lt. absent place (omega arith) lt)) there refl

  -- what a search from the first place on shows
  pub near : (P : ℕ → Type 0) (found : Option ℕ) → MatchOption found (IsAbsent known 0 key) P → MatchOption found (¬ Contains known key) P
  near P None absent = is_not_there absent
  near P (Some place) p = p

abbrev pub blank : Bor (List ℕ)
blank = record { ref_ptr = (0, 0); now = [] }

module _ (known : List (Bor (List ℕ))) (place : ℕ) (key : List ℕ) (lt : place < length known) where
  text_at : get_or (map (λ k. k.now) known) place [] ≡ (get_or known place blank).now
  text_at = get_or-map (λ k. k.now) known place blank [] lt

  pub is_here : bytes_eq (get_or known place blank).now key ≡ true → Contains (map (λ k. k.now) known) key
  is_here same =
      let within : place < length (map (λ k. k.now) known) = omega (arith, length-map known (λ k. k.now)) in
      is_there (map (λ k. k.now) known) key place within (text_at ∙ (bytes_eq-Decides (get_or known place blank).now key).0 same)

  pub is_not_here : bytes_eq (get_or known place blank).now key ≡ false → get_or (map (λ k. k.now) known) place [] ≢ key
  is_not_here other e =
      let same : bytes_eq (get_or known place blank).now key ≡ true = (bytes_eq-Decides (get_or known place blank).now key).1 (sym text_at ∙ e) in
      absurd (cc)

-- ---- the keys of members, one after the other

module _ {A : Type 0} (known : List (List ℕ)) where
  keys_push : (ms : List (Bor (List ℕ) × Value A)) (m : Bor (List ℕ) × Value A) → keys (members_view (ms ++ m ∷ [])) ≡ keys (members_view ms) ++ m.0.now ∷ []
  keys_push [] m = refl
  keys_push (n ∷ ms) m = ap (λ ks. n.0.now ∷ ks) (keys_push ms m)

  -- one key more
  pub known_next : (ms : List (Bor (List ℕ) × Value A)) (i : ℕ) (m : Bor (List ℕ) × Value A) → i < length ms → m ≡ get_or ms i m → All (Contains known) (keys (members_view (take i ms))) → Contains known m.0.now → All (Contains known) (keys (members_view (take (i + 1) ms)))
  known_next ms i m lt here all there =
      let front : take (i + 1) ms ≡ take i ms ++ m ∷ [] = take_more ms i m lt ∙ ap (λ n. take i ms ++ n ∷ []) (sym here) in
      subst (All (Contains known)) (sym (ap (λ ns. keys (members_view ns)) front ∙ keys_push (take i ms) m))
      (All-push (Contains known) (keys (members_view (take i ms))) m.0.now all there)

  -- all keys
  pub known_all : (ms : List (Bor (List ℕ) × Value A)) (i : ℕ) → length ms ≤ i → All (Contains known) (keys (members_view (take i ms))) → All (Contains known) (keys (members_view ms))
  known_all ms i le all = subst (λ ns. All (Contains known) (keys (members_view ns))) (take_all i ms le) all

  unknown_in : (ms : List (Bor (List ℕ) × Value A)) (i : ℕ) (m : Bor (List ℕ) × Value A) → i < length ms → m ≡ get_or ms i m → ¬ Contains known m.0.now → ¬ AllByRecursion (Contains known) (keys (members_view ms))
  unknown_in [] i m lt here none all = absurd (omega (arith, lt))
  unknown_in (n ∷ ms) zero m lt here none all = none (subst (λ x. Contains known x.0.now) (sym here) all.0)
  unknown_in (n ∷ ms) (suc i) m lt here none all = unknown_in ms i m (omega (arith, lt)) here none all.1

  -- a key that is not known
  pub one_unknown : (ms : List (Bor (List ℕ) × Value A)) (i : ℕ) (m : Bor (List ℕ) × Value A) → i < length ms → m ≡ get_or ms i m → ¬ Contains known m.0.now → ¬ All (Contains known) (keys (members_view ms))
  one_unknown ms i m lt here none all = unknown_in ms i m lt here none (recursion_from_All (Contains known) (keys (members_view ms)) all)

-- an object has only known keys where its keys are these
pub only_of : (known : List (List ℕ)) (j : Json) (ms : Members) (ks : List (List ℕ)) (b : Bool) → j ≡ object ms → keys ms ≡ ks → (IsTrue b ↔ All (Contains known) ks) → IsTrue b ↔ HasOnly known j
only_of known j ms ks b is same f = (
  λ t. subst (HasOnly known) (sym is) (subst (All (Contains known)) (sym same) (f.0 t)),
  λ h. f.1 (subst (All (Contains known)) same (subst (HasOnly known) is h)),
)
