use Rattle.std.proofs.Common.{sym, subst}
use Rattle.raw_lists.specs.Blocks.{BeginsEmptied, IsSettled}
use Rattle.raw_lists.proofs.Ends.{settled_without, held_without}
use Rattle.raw_lists.proofs.held_blocks.HeldBlocks.detach_first.Goals as goal

pub into_empty-requires : goal.into_empty-requires
into_empty-requires g c =
    let h = c.self.inside in let r = c.replace_with-first in let is = subst (λ v. BeginsEmptied v.linked) (sym c.self.view_is) c.requires in
    (settled_without h.linked r.new.dest r.result.block r.ensures is).1

pub invariant_of-self : goal.invariant_of-self
invariant_of-self g c =
    let h = c.self.inside in let r = c.replace_with-first in let is = subst (λ v. BeginsEmptied v.linked) (sym c.self.view_is) c.requires in
    held_without h.linked r.new.dest r.result.block _ r.ensures is

pub returns : goal.returns
returns g c =
    let h = c.self.inside in let r = c.replace_with-first in let is = subst (λ v. BeginsEmptied v.linked) (sym c.self.view_is) c.requires in
    subst (λ v. IsSettled v.linked r.new.dest) c.self.view_is (settled_without h.linked r.new.dest r.result.block r.ensures is).0
