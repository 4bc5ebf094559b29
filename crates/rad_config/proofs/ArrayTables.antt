-- The tables that the values of an array are.
use Rattle.std.proofs.Common.{◌≡◌, suc, Bool, true, false, cond, List, [], ◌∷◌, length, Some, None, option_map, is_some, unwrap_or, refl, ap, ◌∙◌, inl, inr, ◌==◌, arith, All, IsTrue, MatchBool, ◌↔◌}
use Rattle.std.specs.List.{AllByRecursion}
use Rattle.std.proofs.lemmas.Bool.{cases_Bool, false≢true}
use Rattle.std.proofs.lemmas.Bool.Decides.{nat_tests}
use Rattle.std.proofs.lemmas.List.Elements.{All-from_recursion, recursion_from_All}
use Rattle.toml.specs.Data.{Data, string, integer, float, boolean, datetime, array, table, Items, item, no_members, as_table, as_array}
use Rattle.toml.specs.View.{view, items_view}
use Rattle.toml.specs.declared.value.Value.{Value}
use Rattle.rad_config.specs.Walk.{tables_in, is_empty_array}
use Rattle.rad_config.specs.internal.Values.{IsTable, tables_of_values}

-- one item, and those behind it
tables_in-item : (d : Data) (rest : Items) → tables_in (item d rest) ≡ cond (is_some (as_table d)) (option_map (λ ts. unwrap_or (as_table d) no_members ∷ ts) (tables_in rest)) None
tables_in-item (string s) rest = refl
tables_in-item (integer z) rest = refl
tables_in-item (float x) rest = refl
tables_in-item (boolean b) rest = refl
tables_in-item (datetime t) rest = refl
tables_in-item (array ds) rest = refl
tables_in-item (table ms) rest = refl

pub tables_in-all : (vs : List Value) → AllByRecursion IsTable vs → tables_in (items_view vs) ≡ Some (tables_of_values vs)
tables_in-all [] h = refl
tables_in-all (v ∷ vs) h = tables_in-item (view v) (items_view vs) ∙ rw (h.0, tables_in-all vs h.1) refl

pub tables_in-none : (vs : List Value) → (AllByRecursion IsTable vs → ⊥) → tables_in (items_view vs) ≡ None
tables_in-none [] refuted = absurd (refuted tt)
tables_in-none (v ∷ vs) refuted =
    tables_in-item (view v) (items_view vs) ∙ elim (cases_Bool (is_some (as_table (view v)))) [
      | inl first ↦ rw (first, tables_in-none vs (λ all. refuted (first, all))) refl
      | inr other ↦ rw other refl
    ]

pub length_tables : (vs : List Value) → length (tables_of_values vs) ≡ length vs
length_tables [] = refl
length_tables (v ∷ vs) = ap (λ n. suc n) (length_tables vs)

items_are : (vs : List Value) (ds : Items) → Some (items_view vs) ≡ Some ds → items_view vs ≡ ds
items_are vs ds e = cc

-- an array is empty where it has no values
pub empty_from : (d : Data) (vs : List Value) → Some (items_view vs) ≡ as_array d → (length vs == 0) ≡ is_empty_array d
empty_from (string s) vs e = absurd cc
empty_from (integer z) vs e = absurd cc
empty_from (float x) vs e = absurd cc
empty_from (boolean b) vs e = absurd cc
empty_from (datetime t) vs e = absurd cc
empty_from (array ds) [] e = ap (λ (i : Items). is_empty_array (array i)) (items_are [] ds e)
empty_from (array ds) (v ∷ vs) e =
    let long : (length (v ∷ vs) == 0) ≡ false = grind (arith, nat_tests) in
    long ∙ ap (λ (i : Items). is_empty_array (array i)) (items_are (v ∷ vs) ds e)
empty_from (table ms) vs e = absurd cc

-- each value is a table, or they are not the tables of an array
pub all_or_none : (r : Bool) (vs : List Value) → (IsTrue r ↔ All IsTable vs)
    → MatchBool r (All IsTable vs × (tables_in (items_view vs) ≡ Some (tables_of_values vs))) (tables_in (items_view vs) ≡ None)
all_or_none true vs h = let all = h.0 refl in (all, tables_in-all vs (recursion_from_All IsTable vs all))
all_or_none false vs h = tables_in-none vs (λ all. false≢true (h.1 (All-from_recursion IsTable vs all)))
