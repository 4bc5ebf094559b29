use Rattle.std.proofs.Common.{◌≡◌, ◌≤◌, ◌++◌, length, vec_capacity}
use Rattle.locked_lanes.specs.Inlet.{taken, places_of, SameInlet}
use Rattle.locked_lanes.proofs.inlet.Inlet.empty.Given as goal

abbrev pub invariant-loop : goal.invariant-loop
invariant-loop l = record {
  took : taken l.self ≡ taken l.fn.self ++ l.rest.items;
  count : length l.rest.items ≡ l.counter;
  all : l.end ≡ places_of l.fn.self;
  room : places_of l.fn.self ≤ vec_capacity l.rest;
  same : SameInlet l.fn.self l.self;
}
