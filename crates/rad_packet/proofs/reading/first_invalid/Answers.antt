use Rattle.std.proofs.Common.{arith}
use Rattle.std.proofs.lemmas.List.{take_rest}
use Rattle.rad_packet.proofs.Scan.{valid_none, valid_more, valid_all, invalid_here}
use Rattle.rad_packet.proofs.reading.first_invalid.Goals as goal

pub loop-place-init : goal.loop-place-init
loop-place-init c = valid_none c.args.octets.now c.requires

pub loop-place-preserved : goal.loop-place-preserved
loop-place-preserved c =
    valid_more c.args.octets.now _ c.loop-place.place c.in-Some.length (take_rest c.args.octets.now c.loop-place.place) c.loop-place.invariant c.in-Some.ensures

pub slice_bounds-first_length-count : goal.slice_bounds-first_length-count
slice_bounds-first_length-count c = omega arith

pub slice_bounds-first_length-start : goal.slice_bounds-first_length-start
slice_bounds-first_length-start c = omega arith

pub slice_bounds-first_length-end : goal.slice_bounds-first_length-end
slice_bounds-first_length-end c = omega arith

pub first_length-requires : goal.first_length-requires
first_length-requires c = tt

pub overflow_add-place : goal.overflow_add-place
overflow_add-place c =
    let v = valid_more c.args.octets.now _ c.loop-place.place c.in-Some.length (take_rest c.args.octets.now c.loop-place.place) c.loop-place.invariant c.in-Some.ensures in
    omega (arith, v.within)

pub loop-place-smaller : goal.loop-place-smaller
loop-place-smaller c = omega (arith, c.in-Some.ensures.counted)

pub returns-in-None : goal.returns-in-None
returns-in-None c =
    invalid_here c.args.octets.now _ c.loop-place.place (take_rest c.args.octets.now c.loop-place.place) c.loop-place.invariant c.loop-place-test.true c.in-None.ensures

pub returns : goal.returns
returns c = valid_all c.args.octets.now c.loop-place.place c.loop-place.invariant c.loop-place-test.false
