use Rattle.std.proofs.Common.{[], ◌∷◌, ◌++◌, Some, None, refl, ap, ◌∙◌, set}
use denote.RawPtr.{Ptr}
use Rattle.raw_lists.specs.Chain.{elems}
use Rattle.raw_lists.proofs.Cells.{ends_at, held_first, one_cell, read_is, joined_on}
use Rattle.raw_lists.proofs.chain.Chain.join.Goals as goal

pub take_last-node-requires : goal.take_last-node-requires
take_last-node-requires g c = ends_at c.self.inside.nodes.cells c.self.inside.tail c.self.invariant.ends

pub read-elem-requires : goal.read-elem-requires
read-elem-requires g c = let held = c.take_last-node.ensures.node.0 in (held.0, held_first c.take_last-node.result.0.places held.0 held.1)

pub one-last-requires : goal.one-last-requires
one-last-requires g c =
    let held = c.take_last-node.ensures.node.0 in
    (_, c.write.ensures.0 ∙ ap (λ l. set l 0 (Some (record { next = Some c.others.inside.head; elem = c.read-elem.result.elem }))) (c.read-elem.ensures.places.0 ∙ ap (λ l. set l 0 None) held.1))

pub invariant_of-result : goal.invariant_of-result
invariant_of-result g c =
    let held = c.take_last-node.ensures.node.0 in let me = c.self.inside in let you = c.others.inside in let front = c.take_last-node.result.1.cells in
    let was = c.take_last-node.ensures.cells ∙ ap (λ l. front ++ l) (one_cell me.tail.at c.take_last-node.result.0.places held.0 held.1) in
    let x = read_is c.take_last-node.result.0.places held.0 c.read-elem.result held.1 c.read-elem.ensures.value in
    let made = c.write.ensures.0 ∙ ap (λ l. set l 0 (Some (record { next = Some you.head; elem = c.read-elem.result.elem }))) (c.read-elem.ensures.places.0 ∙ ap (λ l. set l 0 None) held.1) in
    let at = c.one-last.ensures.place.0 ∙ c.write.ensures.2 ∙ c.read-elem.ensures.places.2 ∙ c.take_last-node.ensures.node.1 in
    let last = c.one-last.ensures.cells ∙ one_cell c.one-last.result.1.at c.write.new.self.places _ made ∙ ap (λ (p : Ptr). (p, record { next = Some you.head; elem = c.read-elem.result.elem }) ∷ []) at in
    (joined_on me.head me.tail you.head you.tail me.nodes.cells you.nodes.cells front c.join-2.result.cells held.0 (record { next = Some you.head; elem = c.read-elem.result.elem })
    c.self.invariant c.others.invariant was refl (ap (λ n. n.elem) x) (c.join-2.ensures.0 ∙ ap (λ l. l ++ you.nodes.cells) (c.join.ensures.0 ∙ ap (λ l. front ++ l) last))).0

pub returns : goal.returns
returns g c =
    let held = c.take_last-node.ensures.node.0 in let me = c.self.inside in let you = c.others.inside in let front = c.take_last-node.result.1.cells in
    let was = c.take_last-node.ensures.cells ∙ ap (λ l. front ++ l) (one_cell me.tail.at c.take_last-node.result.0.places held.0 held.1) in
    let x = read_is c.take_last-node.result.0.places held.0 c.read-elem.result held.1 c.read-elem.ensures.value in
    let made = c.write.ensures.0 ∙ ap (λ l. set l 0 (Some (record { next = Some you.head; elem = c.read-elem.result.elem }))) (c.read-elem.ensures.places.0 ∙ ap (λ l. set l 0 None) held.1) in
    let at = c.one-last.ensures.place.0 ∙ c.write.ensures.2 ∙ c.read-elem.ensures.places.2 ∙ c.take_last-node.ensures.node.1 in
    let last = c.one-last.ensures.cells ∙ one_cell c.one-last.result.1.at c.write.new.self.places _ made ∙ ap (λ (p : Ptr). (p, record { next = Some you.head; elem = c.read-elem.result.elem }) ∷ []) at in
    (joined_on me.head me.tail you.head you.tail me.nodes.cells you.nodes.cells front c.join-2.result.cells held.0 (record { next = Some you.head; elem = c.read-elem.result.elem })
    c.self.invariant c.others.invariant was refl (ap (λ n. n.elem) x) (c.join-2.ensures.0 ∙ ap (λ l. l ++ you.nodes.cells) (c.join.ensures.0 ∙ ap (λ l. front ++ l) last))).1
    ∙ ap (λ l. l ++ elems you.nodes.cells) c.self.view_is ∙ ap (λ l. c.args.self ++ l) c.others.view_is
