use Rattle.std.proofs.Common.{◌≡◌, ◌∙◌, ℕ, List, Bool, true, false, Option, Some, None, option_map, unwrap_or, refl, sym, ap, ◌||◌}
use Rattle.std.specs.List.{list_any, slice_get}
use Rattle.std.proofs.lemmas.Map.Keys.{any_passes_from_place}
use Rattle.rad_realms.specs.Realm.{same_name, is_at}
use Rattle.rad_lane.specs.Setup.{LaneSetup, is_among, is_beside}
use Rattle.rad_lane.proofs.setup.Setup.takes_realm.Goals.{then-has_name_at, else-has_name_at}
use Rattle.rad_lane.proofs.setup.Setup.takes_realm.Goals as goal

-- what stands at a place and passes is one that passes
found_at : (p : List ℕ → Bool) (names : List (List ℕ)) (place : ℕ) (o : Option (List ℕ)) → slice_get names place ≡ o → unwrap_or (option_map p o) false ≡ true → list_any p names ≡ true
found_at p names place None is passes = absurd cc
found_at p names place (Some name) is passes = any_passes_from_place p names place name is passes

any_at : (p : List ℕ → Bool) (names : List (List ℕ)) (rank : Option ℕ) → is_at p names rank ≡ true → list_any p names ≡ true
any_at p names None at = absurd cc
any_at p names (Some place) at = found_at p names place (slice_get names place) refl at

or_true : (b : Bool) → (b || true) ≡ true
or_true true = refl
or_true false = refl

pub returns-then-takes_unlisted : goal.returns-then-takes_unlisted
returns-then-takes_unlisted c =
    elim c.if-has_name_at.branch [
      | then-has_name_at w ↦
          let there = any_at (λ other. same_name other c.args.name.now) c.as_slice-names.result.now c.args.rank (sym c.has_name_at.ensures ∙ w.if-has_name_at.true) in
          let names : c.as_slice-names.result.now ≡ c.args.self.now.realms = c.as_slice-names.ensures ∙ ap (λ (s : LaneSetup). s.realms) c.self.view_is in
          let among : is_among c.args.self.now.realms c.args.name.now ≡ true = rw names at there in
          c.if-takes_unlisted.true ∙ sym (ap (λ b. b || is_beside c.args.self.now.unlisted c.args.name.now) among)
      | else-has_name_at w ↦
          let beside : is_beside c.args.self.now.unlisted c.args.name.now ≡ true = sym w.takes_unlisted.ensures ∙ sym w.value-is ∙ c.if-takes_unlisted.true in
          c.if-takes_unlisted.true ∙ sym (ap (λ b. is_among c.args.self.now.realms c.args.name.now || b) beside ∙ or_true (is_among c.args.self.now.realms c.args.name.now))
    ]
