use Rattle.std.proofs.Common.{[], ◌∷◌, ◌∙◌, sym, ap, arith, length, length-append}
use Rattle.raw_lists.specs.Chain.{joined}
use Rattle.raw_lists.proofs.Ends.{begins_at_first, idle, busy}
use Rattle.raw_lists.proofs.linked_blocks.LinkedBlocks.begins_emptied.Goals as goal

pub returns-in-Some-clause-yes : goal.returns-in-Some-clause-yes
returns-in-Some-clause-yes g c =
    let b = c.self.inside in let f = c.back.inside in
    let n = ap length (sym c.self.view_is) in let m = ap (λ o. length (joined o)) c.in-Some.is in let k = ap length c.back.view_is in
    λ none. idle c.args.self.now c.requires (sym (begins_at_first c.args.self.now (joined b.back) b.first.block (sym c.self.view_is)) ∙ sym c.is_empty.ensures ∙ none)
    (omega (arith, length-append (joined f.middle) (f.last.block ∷ [])))

pub returns-in-Some-clause-no : goal.returns-in-Some-clause-no
returns-in-Some-clause-no g c =
    let b = c.self.inside in
    λ some. busy c.args.self.now c.requires (sym (begins_at_first c.args.self.now (joined b.back) b.first.block (sym c.self.view_is)) ∙ sym c.is_empty.ensures ∙ some)
