use Rattle.std.proofs.Common.{◌≡◌, ◌++◌, length, take, drop, refl, sym, ◌∙◌, subst, arith}
use Rattle.std.specs.Prelude.{All}
use Rattle.locked_lanes.specs.Inlet.{HasRoom}
use Rattle.locked_lanes.specs.Refusing.{AreUntouched}
use Rattle.locked_lanes.specs.Ending.{IsReport}
use Rattle.locked_lanes.proofs.Untouched.{all_of_them, report_before}
use Rattle.locked_lanes.proofs.proxy.Proxy.close.Goals as goal
use Rattle.locked_lanes.proofs.proxy.Proxy.close.Goals.{After-make_room}

-- making room leaves the inlets untouched
untouched_by_room : (c : After-make_room) → AreUntouched c.args.inlets.items c.make_room.new.inlets
untouched_by_room c = subst (λ is. AreUntouched is c.make_room.new.inlets) c.as_mut_slice.ensures.value c.make_room.ensures.untouched

-- and they are all that is in the vector then
all_inlets : (c : After-make_room) → take c.args.inlets.len (c.make_room.new.inlets ++ drop (length c.make_room.new.inlets) c.args.inlets.items) ≡ c.make_room.new.inlets
all_inlets c = all_of_them c.args.inlets.items c.make_room.new.inlets c.args.inlets.len c.args.inlets.ok.0 (untouched_by_room c)

pub unlock-desks-requires-clause-none : goal.unlock-desks-requires-clause-none
unlock-desks-requires-clause-none c = c.in-Ok.ensures.desks.0

pub unlock-desks-requires-clause-room : goal.unlock-desks-requires-clause-room
unlock-desks-requires-clause-room c = omega (arith, c.in-Ok.ensures.desks.1, c.len.ensures)

pub end_all-requires-clause-few : goal.end_all-requires-clause-few
end_all-requires-clause-few c = omega (arith, c.unlock-desks.ensures, c.self.invariant, c.self.inside.desks.ok.0)

pub end_all-requires-clause-places : goal.end_all-requires-clause-places
end_all-requires-clause-places c = omega (arith, c.unlock-desks.ensures, c.in-Ok.ensures.ends.1, c.len.ensures)

pub end_all-requires-clause-none : goal.end_all-requires-clause-none
end_all-requires-clause-none c = c.in-Ok.ensures.ends.0

pub end_all-requires-clause-rooms : goal.end_all-requires-clause-rooms
end_all-requires-clause-rooms c =
    let all = all_inlets (goal.at.end_all-requires-clause-rooms c).After-make_room in
    subst (All HasRoom) (sym all) c.in-Ok.ensures.rooms

pub returns-in-Ok-clause-closed : goal.returns-in-Ok-clause-closed
returns-in-Ok-clause-closed c =
    let at = (goal.at.returns-in-Ok-clause-closed c).After-make_room in
    let desks = c.unlock-desks.result in
    let new = c.make_room.new.inlets in
    record {
      desks = desks.items;
      counted = omega (arith, c.unlock-desks.ensures, c.self.view_is, desks.ok.0, c.self.inside.desks.ok.0);
      report_is = report_before desks.items c.args.inlets.items new c.end_all.result (untouched_by_room at) (subst (λ is. IsReport desks.items is c.end_all.result) (all_inlets at) c.end_all.ensures);
    }

pub returns-in-Err-clause-refused : goal.returns-in-Err-clause-refused
returns-in-Err-clause-refused c =
    let at = (goal.at.returns-in-Err-clause-refused c).After-make_room in
    (refl, subst (AreUntouched c.args.inlets.items) (sym (c.from_vec.ensures ∙ all_inlets at)) (untouched_by_room at))
