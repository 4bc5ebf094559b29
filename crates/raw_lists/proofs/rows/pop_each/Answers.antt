use Rattle.std.proofs.Common.{◌≡◌, ◌+◌, ◌∙◌, min, sym, ap, subst, length, ◌<◌, drop, arith}
use Rattle.std.proofs.lemmas.List.{drop_min}
use Rattle.raw_lists.proofs.Fronts.{drop_popped, some_left}
use Rattle.raw_lists.proofs.rows.pop_each.Goals as goal

pub pop-requires : goal.pop-requires
pop-requires g c = subst (λ l. 0 < length l) (sym c.loop.invariant) (some_left c.loop.counter c.args.row.now.items (omega arith))

pub loop-preserved : goal.loop-preserved
loop-preserved g c = drop_popped c.loop.counter (c.loop.counter + 1) c.args.row.now.items c.pop.new.self.items c.pop.result (omega arith) (sym c.loop.invariant ∙ c.pop.ensures.items)

pub returns : goal.returns
returns g c =
    let items = c.args.row.now.items in
    let all : c.loop.counter ≡ min c.args.count (length items) = omega arith in
    c.loop.invariant ∙ ap (λ k. drop k items) all ∙ drop_min c.args.count items
