use Rattle.std.proofs.Common.{◌≡◌, ◌+◌, ◌≤◌, vec_len, vec_capacity}
use Rattle.std.specs.Vec.Iter.{into_iter_len}
use Rattle.locked_lanes.proofs.closing.unlock.Given as goal

abbrev pub invariant-loop-lock : goal.invariant-loop-lock
invariant-loop-lock l = record {
  count : vec_len l.desks + into_iter_len l.lock-iterator ≡ vec_len l.fn.locks;
  room : vec_len l.fn.locks ≤ vec_capacity l.desks;
}
