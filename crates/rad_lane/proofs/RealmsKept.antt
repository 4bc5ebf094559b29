-- The names of the realms that lead to a lane, as a walk through the realms looks at one more.
use Rattle.std.proofs.Common.{◌≡◌, ℕ, ◌+◌, ◌<◌, List, [], ◌∷◌, ◌++◌, length, get_or, take, sym, ap, ◌∙◌}
use Rattle.std.specs.Prelude.{◌==◌, map as each, filter}
use Rattle.std.proofs.lemmas.Bool.{eq-eqb, ne_eqb}
use Rattle.std.proofs.lemmas.List.{map-append}
use Rattle.rad_config.specs.Configuration.{RealmEntry}
use Rattle.rad_realms.specs.Realm.{realms_of}
use Rattle.rad_lane.proofs.ListLemmas.{filter_takes, filter_skips}

module _ (realms : List RealmEntry) (lane i : ℕ) (realm : RealmEntry) (within : i < length realms) (at : realm ≡ get_or realms i realm) (number : ℕ) (is : number ≡ realm.lane) (names : List (List ℕ)) (kept : names ≡ realms_of (take i realms) lane) where
  -- a realm that leads to the lane adds its name
  pub realm_added : number ≡ lane → (name : List ℕ) → name ≡ realm.name → (more : List (List ℕ)) → more ≡ names ++ name ∷ [] → more ≡ realms_of (take (i + 1) realms) lane
  realm_added same name its more adds =
      adds
      ∙ ap (λ n. names ++ n ∷ []) its
      ∙ ap (λ xs. xs ++ realm.name ∷ []) kept
      ∙ sym (map-append (λ (r : RealmEntry). r.name) (filter (λ (r : RealmEntry). r.lane == lane) (take i realms)) (realm ∷ []))
      ∙ ap (λ xs. each (λ (r : RealmEntry). r.name) xs) (sym (filter_takes (λ (r : RealmEntry). r.lane == lane) realms i realm within at (eq-eqb realm.lane lane (sym is ∙ same))))

  -- any other realm adds nothing
  pub realm_skipped : (number ≡ lane → ⊥) → (more : List (List ℕ)) → more ≡ names → more ≡ realms_of (take (i + 1) realms) lane
  realm_skipped other more same =
      same
      ∙ kept
      ∙ ap (λ xs. each (λ (r : RealmEntry). r.name) xs) (sym (filter_skips (λ (r : RealmEntry). r.lane == lane) realms i realm within at (ne_eqb realm.lane lane (λ e. other (is ∙ e)))))
