use Rattle.std.proofs.Common.{◌≡◌, true, ◌<◌, ◌≤◌, ◌∙◌, sym, subst, length}
use Rattle.raw_lists.specs.Blocks.{first_count, IsReady}
use Rattle.raw_lists.proofs.Ends.{some_first, left_behind, behind_have}
use Rattle.raw_lists.proofs.Ready.{ready_room}
use Rattle.raw_lists.proofs.held_blocks.HeldBlocks.pop.Goals as goal

pub pop-requires : goal.pop-requires
pop-requires g c =
    let bs = c.self.inside.linked in let r = subst (λ v. IsReady c.args.self.now.linked v.linked) (sym c.self.view_is) c.prepare_pop.ensures.ready in
    some_first bs r.chained (subst (λ l. 0 < length l) (sym r.items) c.requires)

pub invariant_of-self : goal.invariant_of-self
invariant_of-self g c =
    let bs = c.self.inside.linked in let r = subst (λ v. IsReady c.args.self.now.linked v.linked) (sym c.self.view_is) c.prepare_pop.ensures.ready in
    let p = c.pop in let more = subst (λ v. v.has_spare ≡ true → 2 ≤ first_count v.linked) (sym c.self.view_is) c.prepare_pop.ensures.spare in
    record {
      lined = (left_behind bs p.new.self p.result r.chained r.more p.ensures).1;
      alone = λ some. behind_have bs p.new.self p.result (c.self.invariant.alone some) p.ensures (more some);
    }

pub returns-clause-items : goal.returns-clause-items
returns-clause-items g c =
    let bs = c.self.inside.linked in let r = subst (λ v. IsReady c.args.self.now.linked v.linked) (sym c.self.view_is) c.prepare_pop.ensures.ready in
    let p = c.pop in sym r.items ∙ (left_behind bs p.new.self p.result r.chained r.more p.ensures).0

pub returns-clause-room : goal.returns-clause-room
returns-clause-room g c =
    let bs = c.self.inside.linked in let r = subst (λ v. IsReady c.args.self.now.linked v.linked) (sym c.self.view_is) c.prepare_pop.ensures.ready in
    let p = c.pop in ready_room c.args.self.now.linked bs p.new.self p.result r p.ensures (left_behind bs p.new.self p.result r.chained r.more p.ensures).2
