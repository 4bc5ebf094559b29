-- Reading tables one after the other, as a loop does.
use Rattle.std.proofs.Common.{◌≡◌, ℕ, ◌+◌, ◌<◌, ◌≤◌, List, [], ◌∷◌, ◌++◌, length, get_or, drop, Result, Ok, Err, refl, sym, ◌∙◌}
use Rattle.std.proofs.lemmas.List.{drop_more}
use Rattle.std.proofs.Math.ListN.{drop_of_length-le}
use Rattle.toml.specs.Data.{Members}
use Rattle.toml.specs.declared.value.Value.{Value}
use Rattle.rad_config.specs.declared.reading.faults.ConfigFault.{ConfigFault}
use Rattle.rad_config.specs.declared.reading.faults.ConfigFault.TheVariants.{Toml, OutOfMemory, Missing, WrongType, OutOfRange, DoubleName, UnknownHome, BadAddress, TooMany}
use Rattle.rad_config.specs.Gives.{Fails}
use Rattle.rad_config.specs.internal.Values.{table_of, tables_of_values}
use Rattle.rad_config.specs.Walk.{each}

-- a fault of one reading is one of another that fails where it does
pub fails_with : {X Y : Type 0} (e : ConfigFault) (r : Result X ConfigFault) (total : Result Y ConfigFault) → ((f : ConfigFault) → r ≡ Err f → total ≡ Err f) → Fails e r → Fails e total
fails_with Toml r total taken h = taken Toml h
fails_with OutOfMemory r total taken h = tt
fails_with (Missing s) r total taken h = taken (Missing s) h
fails_with (WrongType s) r total taken h = taken (WrongType s) h
fails_with (OutOfRange s) r total taken h = taken (OutOfRange s) h
fails_with (DoubleName s) r total taken h = taken (DoubleName s) h
fails_with (UnknownHome s) r total taken h = taken (UnknownHome s) h
fails_with (BadAddress s) r total taken h = taken (BadAddress s) h
fails_with (TooMany s) r total taken h = taken (TooMany s) h

module _ {X : Type 0} (read : List X → Members → Result X ConfigFault) (vs : List Value) where
  -- one table was read
  pub each_goes : (earlier later : List X) (i : ℕ) (v : Value) (x : X) (total : Result (List X) ConfigFault) → i < length vs → v ≡ get_or vs i v → read earlier (table_of v) ≡ Ok x → later ≡ earlier ++ x ∷ []
      → each read earlier (tables_of_values (drop i vs)) ≡ total → each read later (tables_of_values (drop (i + 1) vs)) ≡ total
  unfolding each
  each_goes earlier later i v x total lt here step grown so_far =
      let one : each read earlier (tables_of_values (drop i vs)) ≡ each read later (tables_of_values (drop (i + 1) vs)) = rw (drop_more vs i v lt, ← here, step, grown) refl in
      sym one ∙ so_far

  -- one table was not read
  pub each_stops : (e : ConfigFault) (earlier : List X) (i : ℕ) (v : Value) (total : Result (List X) ConfigFault) → i < length vs → v ≡ get_or vs i v → Fails e (read earlier (table_of v))
      → each read earlier (tables_of_values (drop i vs)) ≡ total → Fails e total
  unfolding each
  each_stops e earlier i v total lt here fails so_far =
      fails_with e (read earlier (table_of v)) total (λ f step.
      let one : each read earlier (tables_of_values (drop i vs)) ≡ Err f = rw (drop_more vs i v lt, ← here, step) refl in
      sym so_far ∙ one) fails

  -- all tables were read
  pub each_ends : (earlier : List X) (i : ℕ) (total : Result (List X) ConfigFault) → length vs ≤ i → each read earlier (tables_of_values (drop i vs)) ≡ total → total ≡ Ok earlier
  unfolding each
  each_ends earlier i total le so_far =
      let one : each read earlier (tables_of_values (drop i vs)) ≡ Ok earlier = rw (drop_of_length-le vs le) refl in
      sym so_far ∙ one
