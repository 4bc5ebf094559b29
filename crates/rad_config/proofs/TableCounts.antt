-- How many tables an array has.
use Rattle.std.proofs.Common.{◌≡◌, ℕ, ◌≤◌, false, nat_le, List, [], ◌∷◌, length, Option, Some, None, option_map, Ok, ap, subst, ◌∙◌, arith}
use Rattle.std.specs.Prelude.{ok_or}
use Rattle.std.proofs.lemmas.Bool.{leb-true}
use Rattle.toml.specs.Data.{Data, string, integer, float, boolean, datetime, array, table, Items, no_items, item, Members, as_array}
use Rattle.rad_config.specs.declared.reading.faults.Spot.{Spot}
use Rattle.rad_config.specs.declared.reading.faults.ConfigFault.TheVariants.{Missing, WrongType, TooMany}
use Rattle.rad_config.specs.Walk.{refuse_if, is_empty_array, needed, tables_in, tables_of, some_tables_at, tables_or_none, any_tables_at}
use Rattle.rad_config.proofs.Steps.{bound, not_refused, known, kept_by}

pub tables_most : (most : ℕ) (s : Spot) (value : Data) (ts : List Members) → tables_of most s value ≡ Ok ts → length ts ≤ most
unfolding tables_of
tables_most most s value ts e =
    let items = bound (ok_or (as_array value) (WrongType s)) _ ts e in
    let tables = bound (ok_or (tables_in items.0) (WrongType s)) _ ts items.2 in
    let kept = kept_by (nat_le (length tables.0) most) tables.0 ts (TooMany s) tables.2 in
    subst (λ (xs : List Members). length xs ≤ most) kept.1 (leb-true (length tables.0) most kept.0)

pub one_more : (t : Members) (o : Option (List Members)) (ts : List Members) → option_map (λ xs. t ∷ xs) o ≡ Some ts → 1 ≤ length ts
one_more t None ts e = absurd cc
one_more t (Some xs) [] e = absurd cc
one_more t (Some xs) (y ∷ ys) e = omega arith

pub some_items : (d : Data) (rest : Items) (ts : List Members) → tables_in (item d rest) ≡ Some ts → 1 ≤ length ts
some_items (string s) rest ts e = absurd cc
some_items (integer z) rest ts e = absurd cc
some_items (float x) rest ts e = absurd cc
some_items (boolean b) rest ts e = absurd cc
some_items (datetime t) rest ts e = absurd cc
some_items (array ds) rest ts e = absurd cc
some_items (table t) rest ts e = one_more t (tables_in rest) ts e

pub some_of_array : (value : Data) (items : Items) (ts : List Members) → is_empty_array value ≡ false → as_array value ≡ Some items → tables_in items ≡ Some ts → 1 ≤ length ts
some_of_array (string s) items ts filled a e = absurd cc
some_of_array (integer z) items ts filled a e = absurd cc
some_of_array (float x) items ts filled a e = absurd cc
some_of_array (boolean b) items ts filled a e = absurd cc
some_of_array (datetime t) items ts filled a e = absurd cc
some_of_array (table t) items ts filled a e = absurd cc
some_of_array (array no_items) items ts filled a e = absurd cc
some_of_array (array (item d rest)) no_items ts filled a e = absurd cc
some_of_array (array (item d rest)) (item c more) ts filled a e = some_items c more ts e

pub tables_least : (most : ℕ) (s : Spot) (value : Data) (ts : List Members) → is_empty_array value ≡ false → tables_of most s value ≡ Ok ts → 1 ≤ length ts
unfolding tables_of
tables_least most s value ts filled e =
    let items = bound (ok_or (as_array value) (WrongType s)) _ ts e in
    let tables = bound (ok_or (tables_in items.0) (WrongType s)) _ ts items.2 in
    let kept = kept_by (nat_le (length tables.0) most) tables.0 ts (TooMany s) tables.2 in
    let tables_are = known (tables_in items.0) (WrongType s) tables.0 tables.1 in
    some_of_array value items.0 ts filled (known (as_array value) (WrongType s) items.0 items.1) (tables_are ∙ ap (λ (xs : List Members). Some xs) kept.1)

abbrev pub Counted : ℕ → ℕ → List Members → Type 0
Counted least most ts = (least ≤ length ts) × (length ts ≤ most)

pub some_counted : (most : ℕ) (s : Spot) (doc : Members) (ts : List Members) → some_tables_at most s doc ≡ Ok ts → Counted 1 most ts
unfolding some_tables_at
some_counted most s doc ts e =
    let value = bound (needed s doc) _ ts e in
    let refused = bound (refuse_if (is_empty_array value.0) (Missing s)) _ ts value.2 in
    let filled = not_refused (is_empty_array value.0) (Missing s) refused.0 refused.1 in
    (tables_least most s value.0 ts filled refused.2, tables_most most s value.0 ts refused.2)

pub none_or_counted : (most : ℕ) (s : Spot) (o : Option Data) (ts : List Members) → tables_or_none most s o ≡ Ok ts → length ts ≤ most
none_or_counted most s None [] e = omega arith
none_or_counted most s None (t ∷ ts) e = absurd cc
none_or_counted most s (Some value) ts e = tables_most most s value ts e

pub any_counted : (most : ℕ) (s : Spot) (doc : Members) (ts : List Members) → any_tables_at most s doc ≡ Ok ts → length ts ≤ most
unfolding any_tables_at
any_counted most s doc ts e = none_or_counted most s _ ts e
