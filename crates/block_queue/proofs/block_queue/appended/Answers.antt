use Rattle.std.proofs.Common.{sym, ap, subst}
use Rattle.raw_lists.specs.Blocks.{linked_of, IsSettled}
use Rattle.raw_lists.proofs.Ends.{linked_none, none_linked, none_both}
use Rattle.block_queue.proofs.block_queue.appended.Goals as goal

pub returns-in-Some-None : goal.returns-in-Some-None
returns-in-Some-None g c =
    let s = c.in-Some-None in let new = c.with_emptied_detached.result.linked in
    linked_none (linked_of c.args.blocks) (linked_of c.args.others) new (ap linked_of s.is-1) (subst (λ o. IsSettled (linked_of o) new) (sym s.is-0) c.with_emptied_detached.ensures)

pub returns-in-None-Some : goal.returns-in-None-Some
returns-in-None-Some g c =
    let s = c.in-None-Some in let new = c.with_emptied_detached-in-None-Some.result.linked in
    none_linked (linked_of c.args.blocks) (linked_of c.args.others) new (ap linked_of s.is-0) (subst (λ o. IsSettled (linked_of o) new) (sym s.is-1) c.with_emptied_detached-in-None-Some.ensures)

pub returns-in-None-None : goal.returns-in-None-None
returns-in-None-None g c = let s = c.in-None-None in none_both (linked_of c.args.blocks) (linked_of c.args.others) (ap linked_of s.is-0) (ap linked_of s.is-1)
