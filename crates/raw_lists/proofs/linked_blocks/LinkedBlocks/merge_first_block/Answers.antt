use Rattle.std.proofs.Common.{◌≡◌, [], ◌∷◌, ◌++◌, sym, ap, ◌∙◌, subst, arith, length}
use Rattle.raw_lists.specs.Blocks.{first_count, IsReady}
use Rattle.raw_lists.proofs.Ends.{at_first}
use Rattle.raw_lists.proofs.Ready.{ends_apart, rest_ends, rest_chained, rest_some, sole_popped, sole_room, moved_behind, popped_length, popped_chained, joined_next}
use Rattle.raw_lists.proofs.linked_blocks.LinkedBlocks.merge_first_block.Goals as goal

pub split_first-rest-requires : goal.split_first-rest-requires
split_first-rest-requires g c = let one = c.requires.one in ends_apart c.args.self c.requires.empty (omega arith)

pub pop-oldest-requires : goal.pop-oldest-requires
pop-oldest-requires g c =
    let r = c.split_first-rest in let n = ap length (at_first c.args.self r.result.0 r.result.1.block r.ensures) in let one = c.requires.one in omega arith

pub into_empty-requires : goal.into_empty-requires
into_empty-requires g c =
    let r = c.split_first-rest in let n = ap length (at_first c.args.self r.result.0 r.result.1.block r.ensures) in
    let p = c.pop-oldest in let one = c.requires.one in ap (λ q. q.items) (sole_popped r.result.1.block p.new.self p.result p.ensures (omega arith)).0

pub push-requires : goal.push-requires
push-requires g c =
    let bs = c.args.self in let r = c.split_first-rest in let rest = r.result.0 in let one = c.requires.one in
    let none : first_count rest ≡ 0 = sym c.first_len-left.ensures ∙ c.if-left-eq0.true in
    let two = ends_apart bs c.requires.empty (omega arith) in
    sole_room rest (rest_chained bs rest r.result.1.block r.ensures c.requires.chained) (rest_some bs rest r.result.1.block r.ensures two) none

pub returns-then-left-eq0 : goal.returns-then-left-eq0
returns-then-left-eq0 g c =
    let bs = c.args.self in let r = c.split_first-rest in let rest = r.result.0 in let p = c.pop-oldest in let one = c.requires.one in
    let n = ap length (at_first bs rest r.result.1.block r.ensures) in
    let none : first_count rest ≡ 0 = sym c.first_len-left.ensures ∙ c.if-left-eq0.true in
    let two = ends_apart bs c.requires.empty (omega arith) in
    let h = rest_chained bs rest r.result.1.block r.ensures c.requires.chained in
    let sole = sole_popped r.result.1.block p.new.self p.result p.ensures (omega arith) in
    subst (IsReady bs) (sym c.push.ensures) (moved_behind bs rest r.result.1.block p.result r.ensures sole.1 h (rest_some bs rest r.result.1.block r.ensures two) none)

pub push-requires-2 : goal.push-requires-2
push-requires-2 g c =
    let r = c.split_first-rest in let n = ap length (at_first c.args.self r.result.0 r.result.1.block r.ensures) in
    let p = c.pop-oldest in let one = c.requires.one in
    let m = ap (λ q. q.room) (sole_popped r.result.1.block p.new.self p.result p.ensures (omega arith)).0 in omega arith

pub push-requires-3 : goal.push-requires-3
push-requires-3 g c =
    let r = c.split_first-rest in let n = ap length (at_first c.args.self r.result.0 r.result.1.block r.ensures) in
    let p = c.pop-oldest in let one = c.requires.one in
    let m = ap (λ q. q.room) (sole_popped r.result.1.block p.new.self p.result p.ensures (omega arith)).0 in
    let k = ap (λ q. q.room) c.push-2.ensures in omega arith

pub free_emptied_first-others-requires-clause-chained : goal.free_emptied_first-others-requires-clause-chained
free_emptied_first-others-requires-clause-chained g c =
    let bs = c.args.self in let r = c.split_first-rest in let rest = r.result.0 in let p = c.pop-next in
    popped_chained rest p.new.self p.result p.ensures (rest_chained bs rest r.result.1.block r.ensures c.requires.chained)

pub free_emptied_first-others-requires-clause-followed : goal.free_emptied_first-others-requires-clause-followed
free_emptied_first-others-requires-clause-followed g c =
    let bs = c.args.self in let r = c.split_first-rest in let rest = r.result.0 in let p = c.pop-next in let one = c.requires.one in
    let n = c.first_len-left.ensures in let some = c.if-left-eq0.false in let two = ends_apart bs c.requires.empty (omega arith) in
    let more = ends_apart rest (rest_ends bs rest r.result.1.block r.ensures two c.requires.empty) (omega arith) in
    let m = popped_length rest p.new.self p.result p.ensures in omega arith

pub returns : goal.returns
returns g c =
    let bs = c.args.self in let r = c.split_first-rest in let rest = r.result.0 in let p = c.pop-oldest in let one = c.requires.one in
    let n = ap length (at_first bs rest r.result.1.block r.ensures) in
    let sole = sole_popped r.result.1.block p.new.self p.result p.ensures (omega arith) in
    let k = c.first_len-left.ensures in let some = c.if-left-eq0.false in let two = ends_apart bs c.requires.empty (omega arith) in
    let more = ends_apart rest (rest_ends bs rest r.result.1.block r.ensures two c.requires.empty) (omega arith) in
    let next = c.pop-next in let freed = c.free_emptied_first-others in let first = c.push-2 in let second = c.push-3 in
    let put : second.new.self.items ≡ p.result ∷ next.result ∷ [] =
    ap (λ q. q.items) second.ensures ∙ ap (λ q. q.items ++ next.result ∷ []) first.ensures ∙ ap (λ q. (q.items ++ p.result ∷ []) ++ next.result ∷ []) sole.0 in
    subst (IsReady bs) (sym (c.prepend.ensures.blocks ∙ ap (λ l. l ++ freed.result) c.one.ensures))
    (joined_next bs rest next.new.self freed.result r.result.1.block second.new.self p.result next.result r.ensures sole.1 next.ensures more freed.ensures.blocks freed.ensures.some put)
