use Rattle.std.proofs.Common.{◌∷◌, ◌++◌, sym, ap, ◌∙◌}
use Rattle.raw_lists.specs.Chain.{elems}
use Rattle.raw_lists.proofs.Cells.{begins_at, held_first, one_cell, read_is, parted_on, none_after, elems_of, elems_none}
use Rattle.raw_lists.proofs.chain.Chain.split.Goals as goal

pub take_first-node-requires : goal.take_first-node-requires
take_first-node-requires g c = begins_at c.self.inside.nodes.cells c.self.inside.head c.self.invariant.begins

pub read-next-requires : goal.read-next-requires
read-next-requires g c = let held = c.take_first-node.ensures.node.0 in (held.0, held_first c.take_first-node.result.0.places held.0 held.1)

pub invariant_of-result : goal.invariant_of-result
invariant_of-result g c =
    let held = c.take_first-node.ensures.node.0 in let me = c.self.inside in let more = c.take_first-node.result.1.cells in
    let x = read_is c.take_first-node.result.0.places held.0 c.read-next.result held.1 c.read-next.ensures.value in
    let was = c.take_first-node.ensures.cells ∙ ap (λ l. l ++ more) (one_cell me.head.at c.take_first-node.result.0.places held.0 held.1) in
    parted_on me.head me.tail c.in-Some.head me.nodes.cells more held.0 c.self.invariant was (sym (ap (λ n. n.next) x) ∙ c.in-Some.is)

pub end-requires : goal.end-requires
end-requires g c =
    let held = c.take_first-node.ensures.node.0 in let me = c.self.inside in let more = c.take_first-node.result.1.cells in
    let x = read_is c.take_first-node.result.0.places held.0 c.read-next.result held.1 c.read-next.ensures.value in
    let was = c.take_first-node.ensures.cells ∙ ap (λ l. l ++ more) (one_cell me.head.at c.take_first-node.result.0.places held.0 held.1) in
    none_after me.head me.tail me.nodes.cells more held.0 c.self.invariant was (sym (ap (λ n. n.next) x) ∙ c.in-None.is)

pub returns-in-Some : goal.returns-in-Some
returns-in-Some g c =
    let held = c.take_first-node.ensures.node.0 in let me = c.self.inside in let more = c.take_first-node.result.1.cells in
    let x = read_is c.take_first-node.result.0.places held.0 c.read-next.result held.1 c.read-next.ensures.value in
    let was = c.take_first-node.ensures.cells ∙ ap (λ l. l ++ more) (one_cell me.head.at c.take_first-node.result.0.places held.0 held.1) in
    sym c.self.view_is ∙ elems_of me.nodes.cells more me.head.at held.0 was ∙ ap (λ n. n.elem ∷ elems more) (sym x)

pub returns-in-None : goal.returns-in-None
returns-in-None g c =
    let held = c.take_first-node.ensures.node.0 in let me = c.self.inside in let more = c.take_first-node.result.1.cells in
    let x = read_is c.take_first-node.result.0.places held.0 c.read-next.result held.1 c.read-next.ensures.value in
    let was = c.take_first-node.ensures.cells ∙ ap (λ l. l ++ more) (one_cell me.head.at c.take_first-node.result.0.places held.0 held.1) in
    let none = none_after me.head me.tail me.nodes.cells more held.0 c.self.invariant was (sym (ap (λ n. n.next) x) ∙ c.in-None.is) in
    sym c.self.view_is ∙ elems_of me.nodes.cells more me.head.at held.0 was ∙ (λ i. (sym x i).elem ∷ elems_none more none i)
