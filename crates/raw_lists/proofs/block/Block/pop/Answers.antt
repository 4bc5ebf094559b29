use Rattle.std.proofs.Common.{◌<◌, ◌-◌, ◌+◌, length, sym, subst, arith}
use Rattle.raw_lists.specs.Blocks.{IsPopped}
use Rattle.raw_lists.specs.Places.{values}
use Rattle.raw_lists.proofs.Places.{first_filled, block_after}
use Rattle.raw_lists.proofs.block.Block.pop.Goals as goal

pub start_after-next-requires : goal.start_after-next-requires
start_after-next-requires g c =
    let r = c.self.inside in let some = subst (λ q. 0 < length q.items) (sym c.self.view_is) c.requires in
    let n = c.self.invariant.counted in let w = c.self.invariant.within in omega arith

pub read-requires : goal.read-requires
read-requires g c =
    let r = c.self.inside in let some = subst (λ q. 0 < length q.items) (sym c.self.view_is) c.requires in
    first_filled r.start r.count r.region.places c.self.invariant some

pub invariant_of-self : goal.invariant_of-self
invariant_of-self g c =
    let r = c.self.inside in let some = subst (λ q. 0 < length q.items) (sym c.self.view_is) c.requires in
    (block_after r.start r.count c.start_after-next.result r.region.places c.self.invariant c.read.result c.read.new.self.places some c.read.ensures.value c.read.ensures.places.0 c.start_after-next.ensures).0

pub returns : goal.returns
returns g c =
    let r = c.self.inside in let some = subst (λ q. 0 < length q.items) (sym c.self.view_is) c.requires in let next = c.start_after-next.result in
    let left = values c.read.new.self.places in let room = 32 - (next + (r.count - 1)) in
    subst (λ q. IsPopped q c.read.result (record { items = left; room = room })) c.self.view_is
    (block_after r.start r.count next r.region.places c.self.invariant c.read.result c.read.new.self.places some c.read.ensures.value c.read.ensures.places.0 c.start_after-next.ensures).1
