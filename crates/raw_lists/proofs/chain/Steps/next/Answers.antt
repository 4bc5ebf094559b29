use Rattle.std.proofs.Common.{◌∙◌, sym, subst, Option, arith}
use Rattle.std.specs.Borrow.{Bor}
use Rattle.std.specs.Map.Iter.{TakesFirst, deref}
use Rattle.raw_lists.proofs.Cells.{none_at, some_at, shown_at}
use Rattle.raw_lists.proofs.chain.Steps.next.Goals as goal

pub returns-in_err-place : goal.returns-in_err-place
returns-in_err-place g c =
    let s = c.self.inside in let none = sym c.self.view_is ∙ none_at s.nodes.now.cells s.index (sym c.in_err-place.was ∙ c.self.invariant.here) in
    subst (λ (r : Option (Bor g.row.E.Denot)). TakesFirst deref c.args.self.now r c.args.self.now) (sym c.from_residual.ensures) (none, none)

pub get-node-requires : goal.get-node-requires
get-node-requires g c =
    let s = c.self.inside in let at = some_at s.nodes.now.cells s.index c.in_ok-place.place (sym c.in_ok-place.was ∙ c.self.invariant.here) in (at.0, at.1)

pub overflow_add-self : goal.overflow_add-self
overflow_add-self g c =
    let s = c.self.inside in let at = some_at s.nodes.now.cells s.index c.in_ok-place.place (sym c.in_ok-place.was ∙ c.self.invariant.here) in
    let low = at.3 in let few = c.self.invariant.few in record { fits = omega arith }

pub invariant_of-self : goal.invariant_of-self
invariant_of-self g c =
    let s = c.self.inside in (shown_at s.nodes.now.cells s.index s.next c.in_ok-place.place c.get-node.result.now c.self.invariant c.in_ok-place.was c.get-node.ensures).0

pub returns : goal.returns
returns g c =
    let s = c.self.inside in sym c.self.view_is ∙ (shown_at s.nodes.now.cells s.index s.next c.in_ok-place.place c.get-node.result.now c.self.invariant c.in_ok-place.was c.get-node.ensures).1
