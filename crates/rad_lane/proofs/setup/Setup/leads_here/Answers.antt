use Rattle.std.proofs.Common.{◌≡◌, ◌∙◌, ℕ, List, Bool, Option, Some, None, sym, ap, subst, ◌<◌, length, ◌||◌, rules}
use Rattle.std.specs.Prelude.{IsTrue}
use Rattle.std.specs.Option.{option_copied}
use Rattle.rad_lane.specs.Setup.{LaneSetup, is_among, is_beside, LeadsHere}
use Rattle.rad_lane.proofs.setup.Setup.leads_here.Goals as goal

abbrev takes : LaneSetup → List ℕ → Bool
takes setup realm = is_among setup.realms realm || is_beside setup.unlisted realm

leads_by : (setup : LaneSetup) (realm : Option (List ℕ)) (name : List ℕ) (b : Bool) → realm ≡ Some name → 0 < length name → b ≡ takes setup name → (IsTrue b → LeadsHere setup realm) × (LeadsHere setup realm → IsTrue b)
leads_by setup None name b is there has = cc
leads_by setup (Some realm) name b is there has =
    let same : realm ≡ name = cc in
    let has_it : b ≡ takes setup realm = has ∙ ap (λ (n : List ℕ). takes setup n) (sym same) in
    let there_is : 0 < length realm = subst (λ (n : List ℕ). 0 < length n) (sym same) there in
    (λ t. (there_is, subst IsTrue has_it t), λ p. subst IsTrue (sym has_it) p.1)

pub returns-then-not-is_empty : goal.returns-then-not-is_empty
returns-then-not-is_empty c =
    let there : 0 < length c.in-Some.name.now = search rules in
    leads_by c.args.self.now (option_copied c.args.realm) c.in-Some.name.now c.takes_realm.result (ap (λ o. option_copied o) c.in-Some.is) there c.takes_realm.ensures
