use Rattle.std.proofs.Common.{◌≡◌, [], vec_len, vec_capacity}
use Rattle.std.specs.Prelude.{map as each, All}
use Rattle.std.specs.List.{range_with_len}
use Rattle.locked_lanes.specs.Desk.{AreNewOf}
use Rattle.locked_lanes.specs.Inlet.{lane_of, taken}
use Rattle.locked_lanes.proofs.proxy.make_desks.Given as goal

abbrev pub invariant-loop-lane : goal.invariant-loop-lane
invariant-loop-lane l = record {
  new : AreNewOf l.fn.config 0 l.desks.items;
  desks : vec_len l.desks ≡ l.lane;
  desk_room : vec_capacity l.desks ≡ l.lanes;
  inlets : vec_len l.inlets ≡ l.lane;
  inlet_room : vec_capacity l.inlets ≡ l.lanes;
  numbered : each lane_of l.inlets.items ≡ range_with_len 0 l.lane;
  untaken : All (λ i. taken i ≡ []) l.inlets.items;
}
