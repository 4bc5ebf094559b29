use Rattle.std.proofs.Common.{rules, ◌≡◌, ◌≤◌, Some, sym, ap, subst, ◌∙◌, arith}
use Rattle.std.specs.Option.{option_copied_mut}
use Rattle.std.specs.FinMap as map
use Rattle.rad_config.specs.declared.limits.LimitNumbers.{LimitNumbers}
use Rattle.rad_lane.specs.Book.{Book}
use Rattle.rad_lane.specs.Entries.{due_in}
use Rattle.rad_lane.proofs.NextDueFound.{before_again, before_put}
use Rattle.rad_lane.proofs.LawfulAfterWatch.{stands_resent, again_is, few_sendings}
use Rattle.rad_lane.proofs.lane.Lane.resend.Goals as goal

pub send_again-number-requires-clause-few : goal.send_again-number-requires-clause-few
send_again-number-requires-clause-few g c =
    let there = ap (λ (b : Book). map.get b.held c.args.slot) c.self.view_is ∙ c.requires.next.1.there in
    let here : Some c.in-Some.entry.now ≡ map.get c.self.inside.slots.entries c.args.slot = ap (λ o. option_copied_mut o) (sym c.in-Some.is) ∙ c.get_mut.follows.0 in
    let own = c.self.invariant.consistent.lawful.holds_its_own c.args.slot _ there in
    few_sendings c.in-Some.entry.now _ _ (here ∙ there) c.requires.next.1.kind (own.1.1 ∙ ap (λ (n : LimitNumbers). n.tries) (sym c.limits.ensures.value)) c.numbers-first_wait.ensures.in_range.tries.1

pub invariant_of-self : goal.invariant_of-self
invariant_of-self g c = record {
  consistent =
      let there = ap (λ (b : Book). map.get b.held c.args.slot) c.self.view_is ∙ c.requires.next.1.there in
      let here : Some c.in-Some.entry.now ≡ map.get c.self.inside.slots.entries c.args.slot = ap (λ o. option_copied_mut o) (sym c.in-Some.is) ∙ c.get_mut.follows.0 in
      let again = again_is c.in-Some.entry.now _ _ _ _ (here ∙ there) c.send_again-number.ensures.again in
      stands_resent _ _ _ _ _ _ c.self.inside.slots _ _ _ _ c.self.view_is _ c.requires.later _ _ _ c.self.invariant.consistent c.requires.is_up c.args.slot _ there _ _ again;
  bounded = c.self.invariant.bounded;
  none_before =
      let there = ap (λ (b : Book). map.get b.held c.args.slot) c.self.view_is ∙ c.requires.next.1.there in
      let here : Some c.in-Some.entry.now ≡ map.get c.self.inside.slots.entries c.args.slot = ap (λ o. option_copied_mut o) (sym c.in-Some.is) ∙ c.get_mut.follows.0 in
      let again = again_is c.in-Some.entry.now _ _ _ _ (here ∙ there) c.send_again-number.ensures.again in
      let none = c.self.invariant.none_before in
      before_put _ _ _ _ _ none (omega arith)
      (subst (λ x. c.self.inside.none_before ≤ due_in x) (sym again) (before_again _ _ _ _ _ _ none there c.requires.next.1.due));
}

pub returns-clause-steps : goal.returns-clause-steps
returns-clause-steps g c = search rules
