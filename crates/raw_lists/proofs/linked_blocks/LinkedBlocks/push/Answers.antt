use Rattle.std.proofs.Common.{◌≤◌, ◌++◌, [], ◌∷◌, ◌∙◌, sym, ap, subst}
use Rattle.raw_lists.specs.Blocks.{room_of, pushed}
use Rattle.raw_lists.specs.Chain.{joined}
use Rattle.raw_lists.proofs.Blocks.{last_room}
use Rattle.raw_lists.proofs.Ends.{room_at_end, pushed_at_end}
use Rattle.raw_lists.proofs.linked_blocks.LinkedBlocks.push.Goals as goal

pub push-requires : goal.push-requires
push-requires g c =
    let b = c.self.inside in let f = c.back.inside in
    let is = ap (λ l. b.first.block ∷ l) c.back.view_is ∙ ap (λ o. b.first.block ∷ joined o) (sym c.in-Some.is) ∙ c.self.view_is in
    subst (λ n. 1 ≤ n) (ap room_of (sym is) ∙ room_at_end (b.first.block ∷ joined f.middle) f.last.block) c.requires

pub push-requires-in-None : goal.push-requires-in-None
push-requires-in-None g c =
    let b = c.self.inside in let is = ap (λ o. b.first.block ∷ joined o) (sym c.in-None.is) ∙ c.self.view_is in
    subst (λ n. 1 ≤ n) (ap room_of (sym is) ∙ last_room b.first.block) c.requires

pub returns-in-Some : goal.returns-in-Some
returns-in-Some g c =
    let b = c.self.inside in let f = c.back.inside in
    let is = ap (λ l. b.first.block ∷ l) c.back.view_is ∙ ap (λ o. b.first.block ∷ joined o) (sym c.in-Some.is) ∙ c.self.view_is in
    ap (λ q. b.first.block ∷ joined f.middle ++ q ∷ []) c.push.ensures ∙ sym (pushed_at_end (b.first.block ∷ joined f.middle) f.last.block c.args.item) ∙ ap (λ l. pushed l c.args.item) is

pub returns-in-None : goal.returns-in-None
returns-in-None g c =
    let b = c.self.inside in let is = ap (λ o. b.first.block ∷ joined o) (sym c.in-None.is) ∙ c.self.view_is in
    ap (λ o. c.push-in-None.new.self ∷ joined o) c.in-None.is ∙ ap (λ q. q ∷ []) c.push-in-None.ensures ∙ sym (pushed_at_end [] b.first.block c.args.item) ∙ ap (λ l. pushed l c.args.item) is
