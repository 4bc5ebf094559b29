use Rattle.std.proofs.Common.{◌≡◌, ◌+◌, ◌≤◌, vec_len, vec_capacity}
use Rattle.std.specs.Vec.Iter.{into_iter_len}
use Rattle.locked_lanes.proofs.proxy.lock_all.Given as goal

abbrev pub invariant-loop-desk : goal.invariant-loop-desk
invariant-loop-desk l = record {
  count : vec_len l.locks + into_iter_len l.desk-iterator ≡ vec_len l.fn.desks;
  room : vec_len l.fn.desks ≤ vec_capacity l.locks;
}
