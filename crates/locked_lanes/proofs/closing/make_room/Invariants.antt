use Rattle.std.proofs.Common.{ℕ, ◌<◌, get_or}
use Rattle.locked_lanes.specs.declared.inlet.Inlet.{Inlet}
use Rattle.locked_lanes.specs.Inlet.{HasRoom}
use Rattle.locked_lanes.specs.Refusing.{AreUntouched}
use Rattle.locked_lanes.proofs.closing.make_room.Given as goal

abbrev pub invariant-loop-inlet : goal.invariant-loop-inlet
invariant-loop-inlet l = record {
  untouched : AreUntouched l.initial.inlets l.inlets;
  rooms : (k : ℕ) (d : Inlet) → k < l.inlet-index → HasRoom (get_or l.inlets k d);
}
