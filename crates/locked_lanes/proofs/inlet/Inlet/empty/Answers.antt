use Rattle.std.proofs.Common.{◌≡◌, ◌≤◌, Some, [], ◌∷◌, ◌++◌, length, refl, sym, ap, ◌∙◌, subst, append_assoc, append-nil, arith, vec_capacity}
use Rattle.std.specs.Prelude.{MatchOption}
use Rattle.std.proofs.lemmas.Grind.{common_steps}
use Rattle.locked_lanes.specs.Inlet.{taken, places_of}
use Rattle.locked_lanes.proofs.Inlets.{same_by_taker, same_later}
use Rattle.locked_lanes.proofs.inlet.Inlet.empty.Goals as goal

pub loop-init : goal.loop-init
loop-init c =
    let rest = c.unwrap-rest.result in
    let room : c.args.self.now.room ≡ Some rest = sym c.take.ensures.value ∙ c.unwrap-rest.ensures in
    let has : (rest.items ≡ []) × (places_of c.args.self.now ≤ vec_capacity rest) =
    subst (λ o. MatchOption o ⊥ (λ r. (r.items ≡ []) × (places_of c.args.self.now ≤ vec_capacity r))) room c.requires in
    record {
      took = sym (ap (λ xs. taken c.args.self.now ++ xs) has.0 ∙ append-nil (taken c.args.self.now));
      count = ap length has.0;
      all = c.capacity-end.ensures;
      room = has.1;
      same = same_by_taker _ _ refl refl;
    }

pub push_reserved-requires : goal.push_reserved-requires
push_reserved-requires c =
    let before = c.loop.invariant in
    omega (arith, before.count, before.all, before.room, c.loop-test.true, c.loop.rest.ok.0)

pub returns-in-None : goal.returns-in-None
returns-in-None c =
    let before = c.loop.invariant in
    record { took = c.in-None.ensures.none ∙ before.took; all = λ _. c.in-None.ensures.nothing; same = same_later _ _ _ before.same c.in-None.ensures.same }

pub loop-preserved : goal.loop-preserved
loop-preserved c =
    let before = c.loop.invariant in
    let response = c.in-Some.response in
    let items = c.push_reserved.ensures.items in
    record {
      took = c.in-Some.ensures.some ∙ ap (λ xs. xs ++ response ∷ []) before.took ∙ append_assoc _ c.loop.rest.items (response ∷ []) ∙ ap (λ xs. taken c.args.self.now ++ xs) (sym items);
      count = grind (arith, common_steps, before.count, items);
      all = before.all;
      room = grind (arith, common_steps, before.room, c.push_reserved.ensures.capacity);
      same = same_later _ _ _ before.same c.in-Some.ensures.same;
    }

pub returns : goal.returns
returns c =
    let before = c.loop.invariant in
    record { took = before.took; all = λ fewer. absurd (omega (arith, before.count, before.all, c.loop-test.false, fewer)); same = before.same }
