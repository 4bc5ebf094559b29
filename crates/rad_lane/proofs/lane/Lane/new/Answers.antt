use Rattle.std.proofs.Common.{◌≤◌, sym, subst, zero-le}
use Rattle.rad_lane.proofs.KeysByAge.{bounded_empty}
use Rattle.rad_lane.proofs.LawfulWhenEmpty.{stands_empty}
use Rattle.rad_lane.proofs.lane.Lane.new.Goals as goal

pub invariant_of-result : goal.invariant_of-result
invariant_of-result g c =
    let last = rw c.unwrap.ensures at c.new-in-Ok-7.ensures in
    rw (c.in-Ok.ensures, c.ports.ensures.value, c.new-in-Ok.ensures, c.new-in-Ok-2.ensures, c.new-in-Ok-3.ensures, c.new-in-Ok-4.ensures, c.new-in-Ok-5.ensures, c.new-in-Ok-6.ensures.numbers, c.new-in-Ok-6.ensures.end, last.1)
    (record { consistent = stands_empty c.args.setup c.ports.ensures.least c.ports.ensures.most; bounded = bounded_empty; none_before = λ slot entry there. zero-le })

pub new-requires-clause-least : goal.new-requires-clause-least
new-requires-clause-least g c = subst (λ n. 1 ≤ n) (sym c.ports.ensures.value) c.ports.ensures.least

pub new-requires-clause-most : goal.new-requires-clause-most
new-requires-clause-most g c = subst (λ n. n ≤ 4) (sym c.ports.ensures.value) c.ports.ensures.most
