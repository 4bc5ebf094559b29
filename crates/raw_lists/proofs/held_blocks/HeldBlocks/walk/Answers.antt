use Rattle.std.proofs.Common.{◌∙◌, ◌+◌, ◌<◌, ◌^◌, sym, ap, subst, length, drop}
use Rattle.raw_lists.specs.Blocks.{items_of, room_of}
use Rattle.raw_lists.proofs.Blocks.{blocks_fit}
use Rattle.raw_lists.proofs.Ends.{passed_over}
use Rattle.raw_lists.proofs.held_blocks.HeldBlocks.walk.Goals as goal

pub walk-requires : goal.walk-requires
walk-requires g c =
    blocks_fit c.self.inside.linked c.self.invariant.lined (subst (λ v. length (items_of v.linked) + room_of v.linked + 1 < 2 ^ 64) (sym c.self.view_is) c.requires)

pub walk-requires-else-emptied : goal.walk-requires-else-emptied
walk-requires-else-emptied g c =
    blocks_fit c.self.inside.linked c.self.invariant.lined (subst (λ v. length (items_of v.linked) + room_of v.linked + 1 < 2 ^ 64) (sym c.self.view_is) c.requires)

pub returns-then-emptied-clause-shape : goal.returns-then-emptied-clause-shape
returns-then-emptied-clause-shape g c =
    (passed_over c.self.inside.linked c.after_first.result (c.begins_emptied-emptied.ensures.yes c.if-emptied.true) (c.after_first.ensures ∙ ap (drop 1) c.walk.ensures)).0

pub returns-then-emptied-clause-items : goal.returns-then-emptied-clause-items
returns-then-emptied-clause-items g c =
    (passed_over c.self.inside.linked c.after_first.result (c.begins_emptied-emptied.ensures.yes c.if-emptied.true) (c.after_first.ensures ∙ ap (drop 1) c.walk.ensures)).1
    ∙ ap (λ v. items_of v.linked) c.self.view_is
