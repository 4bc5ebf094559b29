-- Without the key `other_home` all is what it was before there was this key.
use Rattle.std.proofs.Common.{◌≡◌, ℕ, ◌==◌, List, [], ◌++◌, length, Option, Some, None, option_map, option_to_list, Ok, refl, ap, subst, ◌∙◌, inl, inr, append_assoc}
use Rattle.std.specs.Result.{result_err}
use Rattle.std.proofs.lemmas.Bool.{cases_Bool}
use Rattle.std.proofs.lemmas.List.{append-nil}
use Rattle.toml.specs.Data.{Members, get_member}
use Rattle.rad_config.specs.declared.reading.faults.Key.TheVariants.{DefaultHome, OtherHome}
use Rattle.rad_config.specs.declared.reading.faults.ConfigFault.{ConfigFault}
use Rattle.rad_config.specs.Configuration.{RealmEntry, Configuration}
use Rattle.rad_config.specs.Spot.{key_name}
use Rattle.rad_config.specs.Realm.{or_else, row_of, lane_in, lane_by, IsRank}
use Rattle.rad_config.specs.Walk.{optional_text_at, listen_in, home_name_in, walk}
use Rattle.rad_config.specs.Faults.{top_faults, unknown_faults, faults_in}
use Rattle.rad_config.specs.WithoutOtherHome.{walk_without, faults_without, lane_without, IsRankWithout}

-- ---- the walk and the faults

module _ (doc : Members) (absent : get_member (key_name OtherHome) doc ≡ None) where
  not_named : home_name_in OtherHome doc ≡ Ok None
  unfolding optional_text_at
  not_named = rw absent refl

  none_unknown : unknown_faults OtherHome doc ≡ []
  unfolding unknown_faults
  none_unknown = rw absent refl

  pub same_walk : walk doc ≡ walk_without doc
  unfolding walk walk_without
  same_walk = rw not_named refl

  pub same_faults : faults_in doc ≡ faults_without doc
  unfolding faults_in faults_without top_faults
  same_faults =
      rw (not_named, none_unknown, append-nil (unknown_faults DefaultHome doc))
      (append_assoc (option_to_list (result_err (listen_in doc))) _ _ ∙ ap (λ (fs : List ConfigFault). option_to_list (result_err (listen_in doc)) ++ fs) (append_assoc (option_to_list (result_err (home_name_in DefaultHome doc))) _ _))

-- ---- the lane and the rank of a realm

or_none : {A : Type 0} (o : Option A) → or_else o None ≡ o
or_none None = refl
or_none (Some x) = refl

pub same_lane : (c : Configuration) (realm : Option (List ℕ)) → c.other_lane ≡ None → lane_by c realm ≡ lane_without c.realms c.default_lane realm
unfolding lane_in
same_lane c None none = refl
same_lane c (Some realm) none = rw (none, or_none (option_map (λ r. r.lane) (row_of c.realms realm))) refl

nothing : (lane : ℕ) → None ≡ Some lane → ⊥
nothing lane e = absurd cc

-- a realm that is in no row leads nowhere
no_lane : (table : List RealmEntry) (realm : List ℕ) (lane : ℕ) → row_of table realm ≡ None → lane_in table None realm ≡ Some lane → ⊥
unfolding lane_in
no_lane table realm lane none leads =
    elim (cases_Bool (length realm == 0)) [
      | inl empty ↦ nothing lane (rw empty at leads)
      | inr some ↦ nothing lane (rw (some, none) at leads)
    ]

pub same_rank : (c : Configuration) (realm : Option (List ℕ)) (lane : ℕ) (rank : Option ℕ) → c.other_lane ≡ None → lane_by c realm ≡ Some lane → IsRank c.realms lane realm rank → IsRankWithout c.realms lane realm rank
same_rank c None lane rank none leads is = is
same_rank c (Some realm) lane None none leads is = absurd (no_lane c.realms realm lane is (subst (λ (o : Option ℕ). lane_in c.realms o realm ≡ Some lane) none leads))
same_rank c (Some realm) lane (Some place) none leads is = is
