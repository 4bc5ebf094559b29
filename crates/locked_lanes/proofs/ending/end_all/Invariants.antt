use Rattle.std.proofs.Common.{◌≡◌, ℕ, ◌*◌, ◌<◌, ◌≤◌, ◌++◌, length, drop, vec_len, vec_capacity}
use Rattle.std.specs.Prelude.{map as each, All}
use Rattle.std.specs.List.{flat_map}
use Rattle.std.specs.Vec.Iter.{into_iter_items, into_iter_len}
use Rattle.locked_lanes.specs.Desk.{book}
use Rattle.locked_lanes.specs.Inlet.{HasRoom}
use Rattle.locked_lanes.specs.Ending.{EndsAt}
use Rattle.locked_lanes.proofs.ending.end_all.Given as goal

abbrev pub invariant-loop-desk : goal.invariant-loop-desk
invariant-loop-desk l = record {
  desks : l.yielded ++ into_iter_items l.desk-iterator ≡ l.fn.desks.items;
  desks_len : into_iter_len l.desk-iterator ≡ length (into_iter_items l.desk-iterator);
  inlets : drop (length l.yielded) l.fn.inlets.items ≡ into_iter_items l.inlets;
  inlets_len : into_iter_len l.inlets ≡ length (into_iter_items l.inlets);
  rooms : All HasRoom (into_iter_items l.inlets);
  count : length l.ends.items ≡ length l.yielded;
  places : vec_len l.fn.desks ≤ vec_capacity l.ends;
  ends : (lane : ℕ) → lane < length l.yielded → EndsAt l.yielded l.fn.inlets.items l.ends.items lane;
  queued : each (λ k. k.recorded) l.queued.items ≡ flat_map (λ d. (book d).queued) l.yielded;
  bounded : length l.queued.items ≤ 65536 * length l.yielded;
}
