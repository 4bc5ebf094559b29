-- The lanes that realms and the default lead to.
use Rattle.std.proofs.Common.{◌≡◌, ℕ, ◌<◌, ◌==◌, Bool, List, [], ◌∷◌, length, Option, Some, None, option_map, inl, inr, sym, subst, All}
use Rattle.std.specs.Prelude.{find, IfSome}
use Rattle.std.specs.List.{AllByRecursion}
use Rattle.std.proofs.lemmas.Bool.{cases_Bool}
use Rattle.std.proofs.lemmas.List.Elements.{recursion_from_All}
use Rattle.rad_config.specs.Configuration.{RealmEntry}
use Rattle.rad_config.specs.declared.realms.Destination.{Destination}
use Rattle.rad_config.specs.Realm.{same_name, or_else, row_of, lane_in}

-- what is found is one of those that are looked at
mapped_within : (most : ℕ) (p : RealmEntry → Bool) (table : List RealmEntry) → AllByRecursion (λ r. r.lane < most) table → IfSome (option_map (λ r. r.lane) (find p table)) (λ lane. lane < most)
mapped_within most p [] h = tt
mapped_within most p (r ∷ rs) h =
    elim (cases_Bool (p r)) [
      | inl here ↦ rw here h.0
      | inr other ↦ rw other (mapped_within most p rs h.1)
    ]

either_within : (most : ℕ) (first second : Option ℕ) → IfSome first (λ lane. lane < most) → IfSome second (λ lane. lane < most) → IfSome (or_else first second) (λ lane. lane < most)
either_within most None second h other = other
either_within most (Some lane) second h other = h

pub lane_within : (most : ℕ) (table : List RealmEntry) (other : Option ℕ) (realm : List ℕ) → All (λ r. r.lane < most) table → IfSome other (λ lane. lane < most) → IfSome (lane_in table other realm) (λ lane. lane < most)
unfolding lane_in
lane_within most table other realm h rest =
    elim (cases_Bool (length realm == 0)) [
      | inl empty ↦ rw empty tt
      | inr some ↦
          let row = mapped_within most (λ r. same_name r.name realm) table (recursion_from_All (λ r. r.lane < most) table h) in
          rw some (either_within most (option_map (λ r. r.lane) (row_of table realm)) other row rest)
    ]

-- a destination is a lane that its realm leads to
pub destination_within : (most : ℕ) (found : Option Destination) (lane : Option ℕ) → option_map (λ d. d.lane) found ≡ lane → IfSome lane (λ lane. lane < most) → IfSome found (λ d. d.lane < most)
destination_within most None lane is within = tt
destination_within most (Some d) lane is within = subst (λ (o : Option ℕ). IfSome o (λ lane. lane < most)) (sym is) within
