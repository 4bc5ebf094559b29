use Rattle.std.proofs.Common.{◌≡◌, ◌+◌, [], length, ap, sym, subst, ◌∙◌, arith}
use Rattle.std.specs.Prelude.{map as each}
use Rattle.std.specs.List.{range_with_len}
use Rattle.std.proofs.lemmas.List.Elements.{All-push}
use Rattle.rad_lane.specs.Setup.{LaneSetup}
use Rattle.locked_lanes.specs.declared.inlet.Inlet.{Inlet}
use Rattle.locked_lanes.specs.Inlet.{lane_of, taken}
use Rattle.locked_lanes.specs.Desk.{AreNewOf}
use Rattle.locked_lanes.proofs.Opening.{lanes_more, new_more}
use Rattle.locked_lanes.proofs.proxy.make_desks.Goals as goal

pub loop-lane-preserved : goal.loop-lane-preserved
loop-lane-preserved c =
    let lane = c.in_ok-desk.ensures.lane ∙ ap (λ (s : LaneSetup). s.lane) c.in-Ok-of.ensures.parts in
    let before = c.loop-lane.invariant in
    let Untaken : Inlet → Type 0 = λ i. taken i ≡ [] in
    let at : c.loop-lane.lane ≡ 0 + length c.loop-lane.desks.items = omega (arith, c.loop-lane.desks.ok.0, before.desks) in
    record {
      new =
          rw c.push_reserved.ensures.items
          (new_more c.args.config.now 0 c.loop-lane.lane c.loop-lane.desks.items c.in_ok-desk.desk at before.new (record { setup = c.in-Ok-of.setup; set_up = c.in-Ok-of.ensures; empty = c.in_ok-desk.ensures.book }));
      desks = grind (arith, c.push_reserved.ensures.len, before.desks);
      desk_room = grind (arith, c.push_reserved.ensures.capacity, before.desk_room);
      inlets = grind (arith, c.push_reserved-in-loop-lane.ensures.len, before.inlets);
      inlet_room = grind (arith, c.push_reserved-in-loop-lane.ensures.capacity, before.inlet_room);
      numbered = rw c.push_reserved-in-loop-lane.ensures.items (lanes_more c.loop-lane.inlets.items c.in_ok-desk.inlet c.loop-lane.lane before.numbered lane);
      untaken = rw c.push_reserved-in-loop-lane.ensures.items (All-push Untaken c.loop-lane.inlets.items c.in_ok-desk.inlet before.untaken c.in_ok-desk.ensures.taken);
    }

pub loop-lane-init : goal.loop-lane-init
loop-lane-init c =
    let inlets = c.in-Ok-with_capacity.inlets.items in
    let none = ap length c.in-Ok-with_capacity.ensures.items in
    record {
      new = subst (AreNewOf c.args.config.now 0) (sym c.in-Ok.ensures.items) tt;
      desks = c.in-Ok.ensures.len;
      desk_room = omega (arith, c.in-Ok.ensures.exact, c.from.ensures);
      inlets = c.in-Ok-with_capacity.ensures.len;
      inlet_room = omega (arith, c.in-Ok-with_capacity.ensures.exact, c.from-2.ensures);
      numbered = ap (each lane_of) c.in-Ok-with_capacity.ensures.items;
      untaken = λ k d below. absurd (omega (arith, none, below));
    }

pub push_reserved-requires : goal.push_reserved-requires
push_reserved-requires c = omega (arith, c.loop-lane.invariant.desks, c.loop-lane.invariant.desk_room)

pub push_reserved-requires-in-loop-lane : goal.push_reserved-requires-in-loop-lane
push_reserved-requires-in-loop-lane c = omega (arith, c.loop-lane.invariant.inlets, c.loop-lane.invariant.inlet_room)

pub returns-clause-desks : goal.returns-clause-desks
returns-clause-desks c = c.loop-lane.invariant.new

pub returns-clause-count : goal.returns-clause-count
returns-clause-count c = omega (arith, c.loop-lane.desks.ok.0, c.loop-lane.invariant.desks, ap length c.homes.ensures.value)

pub returns-clause-inlets : goal.returns-clause-inlets
returns-clause-inlets c =
    let count : c.loop-lane.lane ≡ length c.args.config.now.homes = omega (arith, c.loop-lane.desks.ok.0, c.loop-lane.invariant.desks, ap length c.homes.ensures.value) in
    c.loop-lane.invariant.numbered ∙ ap (range_with_len 0) count

pub returns-clause-taken : goal.returns-clause-taken
returns-clause-taken c = c.loop-lane.invariant.untaken

pub returns-clause-most : goal.returns-clause-most
returns-clause-most c = omega (arith, c.loop-lane.desks.ok.0, c.loop-lane.invariant.desks, c.homes.ensures.most, ap length c.homes.ensures.value)
