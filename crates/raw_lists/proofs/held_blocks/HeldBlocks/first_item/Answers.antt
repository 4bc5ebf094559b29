use Rattle.std.proofs.Common.{◌∙◌, ap, subst}
use Rattle.std.specs.Map.Iter.{TakesFirst, deref}
use Rattle.raw_lists.specs.Queue.{oldest}
use Rattle.raw_lists.proofs.Ends.{oldest_taken, none_taken}
use Rattle.raw_lists.proofs.held_blocks.HeldBlocks.first_item.Goals as goal

pub returns-in-Some : goal.returns-in-Some
returns-in-Some g c =
    let w = c.walk-blocks in
    c.first.ensures ∙ oldest_taken w.result c.next.new.self c.in-Some.block w.ensures.shape (subst (λ r. TakesFirst deref w.result r c.next.new.self) c.in-Some.is c.next.ensures) ∙ ap oldest w.ensures.items

pub returns-in-None : goal.returns-in-None
returns-in-None g c =
    let w = c.walk-blocks in none_taken w.result c.next.new.self (subst (λ r. TakesFirst deref w.result r c.next.new.self) c.in-None.is c.next.ensures) ∙ ap oldest w.ensures.items
