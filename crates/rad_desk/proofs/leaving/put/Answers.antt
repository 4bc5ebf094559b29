use Rattle.std.proofs.Common.{◌+◌, ◌-◌, length, drop, arith, length-take, length-drop}
use Rattle.rad_desk.proofs.leaving.put.Goals as goal

pub overflow_add-end : goal.overflow_add-end
overflow_add-end c = omega arith

pub slice_bounds-copy_from_slice-count : goal.slice_bounds-copy_from_slice-count
slice_bounds-copy_from_slice-count c = omega arith

pub slice_bounds-copy_from_slice-start : goal.slice_bounds-copy_from_slice-start
slice_bounds-copy_from_slice-start c = omega arith

pub slice_bounds-copy_from_slice-end : goal.slice_bounds-copy_from_slice-end
slice_bounds-copy_from_slice-end c = omega arith

pub copy_from_slice-requires : goal.copy_from_slice-requires
copy_from_slice-requires c =
    let n = length c.args.octets.now in
    omega (arith, length-take (c.args.place + n - c.args.place) (drop c.args.place c.args.buffer.now), length-drop c.args.place c.args.buffer.now)
