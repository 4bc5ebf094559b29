-- How a value is read as tables, by what its parts are.
use Rattle.std.proofs.Common.{◌≡◌, ℕ, ◌<◌, ◌≤◌, le-leb, List, length, Some, None, Ok, Err, refl}
use Rattle.std.proofs.lemmas.Bool.{lt-leb}
use Rattle.toml.specs.Data.{Data, Items, Members, as_array}
use Rattle.rad_config.specs.declared.reading.faults.Spot.{Spot}
use Rattle.rad_config.specs.declared.reading.faults.ConfigFault.TheVariants.{WrongType, TooMany}
use Rattle.rad_config.specs.Walk.{tables_in, tables_of}

module _ (most : ℕ) (s : Spot) (d : Data) where
  pub not_an_array : None ≡ as_array d → tables_of most s d ≡ Err (WrongType s)
  unfolding tables_of
  not_an_array none = rw (← none) refl

  module _ (items : Items) (is : Some items ≡ as_array d) where
    pub no_tables : tables_in items ≡ None → tables_of most s d ≡ Err (WrongType s)
    unfolding tables_of
    no_tables none = rw (← is, none) refl

    module _ (tables : List Members) (are : tables_in items ≡ Some tables) where
      pub too_many_tables : most < length tables → tables_of most s d ≡ Err (TooMany s)
      unfolding tables_of
      too_many_tables more = rw (← is, are, lt-leb (length tables) most more) refl

      pub all_tables : length tables ≤ most → tables_of most s d ≡ Ok tables
      unfolding tables_of
      all_tables few = rw (← is, are, le-leb (length tables) most few) refl
