use Rattle.std.proofs.Common.{◌∷◌, ◌∙◌, sym, ap}
use Rattle.raw_lists.specs.Chain.{joined}
use Rattle.raw_lists.proofs.linked_blocks.LinkedBlocks.last.Goals as goal

pub returns-in-Some : goal.returns-in-Some
returns-in-Some g c =
    let b = c.self.inside in let f = c.back.inside in
    (b.first.block ∷ joined f.middle, ap (λ l. b.first.block ∷ l) c.back.view_is ∙ ap (λ o. b.first.block ∷ joined o) (sym c.in-Some.is) ∙ c.self.view_is)
