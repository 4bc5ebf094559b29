-- What a loop over tables keeps, where all faults are listed.
use Rattle.std.proofs.Common.{◌≡◌, ℕ, ◌+◌, ◌<◌, ◌≤◌, ◌||◌, Bool, List, [], ◌∷◌, ◌++◌, length, get_or, take, drop, Result, Ok, Err, refl, sym, ap, ◌∙◌, append_assoc}
use Rattle.std.proofs.lemmas.List.{append-nil, drop_more, take_more, map-append}
use Rattle.std.proofs.Math.ListN.{drop_of_length-le}
use Rattle.std.specs.List.{list_any}
use Rattle.std.specs.Result.{result_err}
use Rattle.toml.specs.Data.{Members}
use Rattle.toml.specs.declared.value.Value.{Value}
use Rattle.rad_config.specs.declared.reading.faults.Part.{Part}
use Rattle.rad_config.specs.declared.reading.faults.ConfigFault.{ConfigFault}
use Rattle.rad_config.specs.internal.Values.{table_of, tables_of_values, Reads}
use Rattle.rad_config.specs.Faults.{table_faults, each_faults}

-- a fault that is told is one of the reading
pub reads_err : {X Y : Type 0} (seen : X → Y) (r : Result X ConfigFault) (reading : Result Y ConfigFault) → Reads seen r reading → result_err r ≡ result_err reading
reads_err seen (Ok x) reading e = ap result_err (sym e)
reads_err seen (Err fault) reading e = ap result_err (sym e)

-- a test of the table of a value
pub any_of_tables : (p : Members → Bool) (vs : List Value) → list_any (λ v. p (table_of v)) vs ≡ list_any p (tables_of_values vs)
any_of_tables p [] = refl
any_of_tables p (v ∷ vs) = ap (λ b. p (table_of v) || b) (any_of_tables p vs)

module _ (p : Part) (homes : List Members) (vs : List Value) where
  rest_from : ℕ → List ConfigFault
  rest_from i = each_faults p homes i (tables_of_values (take i vs)) (tables_of_values (drop i vs))

  -- the faults of the next table, and those of the tables behind it
  next_table : (i : ℕ) (v : Value) → i < length vs → v ≡ get_or vs i v
      → rest_from i ≡ table_faults p homes i (tables_of_values (take i vs)) (table_of v) ++ rest_from (i + 1)
  unfolding each_faults rest_from
  next_table i v lt here =
      let back : tables_of_values (take (i + 1) vs) ≡ tables_of_values (take i vs) ++ table_of v ∷ [] =
      ap tables_of_values (take_more vs i v lt ∙ ap (λ (x : Value). take i vs ++ x ∷ []) (sym here)) ∙ map-append table_of (take i vs) (v ∷ []) in
      rw (back, drop_more vs i v lt, ← here) refl

  pub tables_onward : (i : ℕ) (v : Value) (told more all : List ConfigFault) → i < length vs → v ≡ get_or vs i v
      → more ≡ told ++ table_faults p homes i (tables_of_values (take i vs)) (table_of v)
      → told ++ each_faults p homes i (tables_of_values (take i vs)) (tables_of_values (drop i vs)) ≡ all
      → more ++ each_faults p homes (i + 1) (tables_of_values (take (i + 1) vs)) (tables_of_values (drop (i + 1) vs)) ≡ all
  unfolding rest_from
  tables_onward i v told more all lt here one e =
      let table = table_faults p homes i (tables_of_values (take i vs)) (table_of v) in
      ap (λ (xs : List ConfigFault). xs ++ rest_from (i + 1)) one
      ∙ append_assoc told table (rest_from (i + 1))
      ∙ ap (λ (xs : List ConfigFault). told ++ xs) (sym (next_table i v lt here))
      ∙ e

  -- nothing is left at the end
  pub tables_end : (i : ℕ) (told all : List ConfigFault) → length vs ≤ i
      → told ++ each_faults p homes i (tables_of_values (take i vs)) (tables_of_values (drop i vs)) ≡ all → told ≡ all
  unfolding each_faults
  tables_end i told all le e =
      sym (append-nil told)
      ∙ sym (ap (λ (xs : List Value). told ++ each_faults p homes i (tables_of_values (take i vs)) (tables_of_values xs)) (drop_of_length-le vs le))
      ∙ e
