-- The list of lanes in a line, value by value.
use Rattle.std.proofs.Common.{◌≡◌, ℕ, zero, suc, ◌+◌, ◌<◌, ◌≤◌, List, [], ◌∷◌, ◌++◌, length, get_or, take, Some, None, sym, ap, ◌∙◌, subst, arith, codes}
use Rattle.std.proofs.lemmas.List.{take_more, take_all}
use Rattle.json.specs.Json.{Json, Items, array}
use Rattle.json.specs.Find.{get}
use Rattle.json.specs.Value.{value_view, items_view}
use Rattle.json.specs.declared.value.Value.{Value}
use Rattle.ledger_lines.specs.Lines.{Denies, AreEach, as_items, HasList, HasLanes}
use Rattle.ledger_lines.specs.declared.faults.LineFault.{LineFault}
use Rattle.ledger_lines.specs.declared.faults.LineFault.TheVariants.{NotALine, OutOfMemory}
use Rattle.ledger_lines.proofs.Lines.{denied, differ}
use Rattle.ledger_lines.proofs.Found.{same_some, items_by}

-- ---- the list at its key

module _ (value : Json) where
  abbrev pub ListThere : Type 0
  ListThere = (items : Items) × HasList value items

  pub list_found : (found : Json) (items : Items) → Some found ≡ get (codes "lanes") value → Some items ≡ as_items found → HasList value items
  list_found found items e s = sym e ∙ ap Some (items_by found items (sym s))

  pub no_list : (found : Json) → Some found ≡ get (codes "lanes") value → None ≡ as_items found → ¬ ListThere
  no_list found e s p = differ (as_items found) p.0 s (ap as_items (same_some found (array p.0) (e ∙ p.1)))

  pub no_list_there : None ≡ get (codes "lanes") value → ¬ ListThere
  no_list_there e p = differ (get (codes "lanes") value) (array p.0) e p.1

-- ---- its values, one after the other

module _ {A X : Type 0} (Is : Json → X → Type 0) where
  each_push : (vs : List (Value A)) (v : Value A) (xs : List X) (x : X) → AreEach Is (items_view vs) xs → Is (value_view v) x → AreEach Is (items_view (vs ++ v ∷ [])) (xs ++ x ∷ [])
  each_push [] v [] x a is = (is, tt)
  each_push [] v (y ∷ ys) x a is = absurd a
  each_push (w ∷ ws) v [] x a is = absurd a
  each_push (w ∷ ws) v (y ∷ ys) x a is = (a.0, each_push ws v ys x a.1 is)

  -- one value more
  pub each_next : (vs : List (Value A)) (i : ℕ) (v : Value A) (xs ys : List X) (x : X) → i < length vs → v ≡ get_or vs i v → AreEach Is (items_view (take i vs)) xs → Is (value_view v) x → ys ≡ xs ++ x ∷ [] → AreEach Is (items_view (take (i + 1) vs)) ys
  each_next vs i v xs ys x lt here a is grown =
      let front : take (i + 1) vs ≡ take i vs ++ v ∷ [] = take_more vs i v lt ∙ ap (λ w. take i vs ++ w ∷ []) (sym here) in
      subst (λ zs. AreEach Is (items_view (take (i + 1) vs)) zs) (sym grown)
      (subst (λ ws. AreEach Is (items_view ws) (xs ++ x ∷ [])) (sym front) (each_push (take i vs) v xs x a is))

  -- all values
  pub each_all : (vs : List (Value A)) (i : ℕ) (xs : List X) → length vs ≤ i → AreEach Is (items_view (take i vs)) xs → AreEach Is (items_view vs) xs
  each_all vs i xs le a = subst (λ ws. AreEach Is (items_view ws) xs) (take_all i vs le) a

  none_there : (vs : List (Value A)) (i : ℕ) (v : Value A) (xs : List X) → i < length vs → v ≡ get_or vs i v → ¬ ((x : X) × Is (value_view v) x) → ¬ AreEach Is (items_view vs) xs
  none_there [] i v xs lt here none a = absurd (omega (arith, lt))
  none_there (w ∷ ws) i v [] lt here none a = a
  none_there (w ∷ ws) zero v (x ∷ xs) lt here none a = none (x, subst (λ u. Is (value_view u) x) (sym here) a.0)
  none_there (w ∷ ws) (suc i) v (x ∷ xs) lt here none a = none_there ws i v xs (omega (arith, lt)) here none a.1

  -- a value that is none denies all
  pub each_denied : (fault : LineFault) (vs : List (Value A)) (i : ℕ) (v : Value A) → i < length vs → v ≡ get_or vs i v → Denies fault ((x : X) × Is (value_view v) x) → Denies fault ((xs : List X) × AreEach Is (items_view vs) xs)
  each_denied NotALine vs i v lt here d = λ p. none_there vs i v p.0 lt here d p.1
  each_denied OutOfMemory vs i v lt here d = tt

-- ---- both together

module _ {X : Type 0} (Is : Json → X → Type 0) (value : Json) where
  abbrev pub LanesThere : Type 0
  LanesThere = (lanes : List X) × HasLanes Is value lanes

  pub lanes_found : (items : Items) (lanes : List X) → HasList value items → AreEach Is items lanes → HasLanes Is value lanes
  lanes_found items lanes there are = record { items = items; there = there; are = are }

  pub no_list_of_lanes : (fault : LineFault) → Denies fault (ListThere value) → Denies fault LanesThere
  no_list_of_lanes fault d = denied (ListThere value) LanesThere (λ p. (p.1.items, p.1.there)) fault d

  pub no_lanes_in : (fault : LineFault) (items : Items) → HasList value items → Denies fault ((lanes : List X) × AreEach Is items lanes) → Denies fault LanesThere
  no_lanes_in fault items there d =
      denied ((lanes : List X) × AreEach Is items lanes) LanesThere
      (λ p. (p.0, subst (λ i. AreEach Is i p.0) (same_some p.1.items items (ap as_items (same_some (array p.1.items) (array items) (sym p.1.there ∙ there)))) p.1.are)) fault d
