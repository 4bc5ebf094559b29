use Rattle.std.proofs.Common.{◌<◌, length, arith}
use Rattle.locked_lanes.specs.Inlet.{HasRoom}
use Rattle.locked_lanes.proofs.Rooms.{one_more, untouched_at_first, untouched_more}
use Rattle.locked_lanes.proofs.closing.make_room.Goals as goal

pub loop-inlet-init : goal.loop-inlet-init
loop-inlet-init c = record { untouched = untouched_at_first c.args.inlets.now; rooms = λ k d below. absurd (omega arith) }

pub returns-in_err-make_room-clause-untouched : goal.returns-in_err-make_room-clause-untouched
returns-in_err-make_room-clause-untouched c =
    untouched_more c.args.inlets.now c.loop-inlet.inlets c.loop-inlet.inlet-index _ c.make_room.new.self (omega arith) c.make_room.ensures.untouched c.loop-inlet.invariant.untouched

pub loop-inlet-preserved : goal.loop-inlet-preserved
loop-inlet-preserved c =
    let at = c.loop-inlet in
    let there : at.inlet-index < length at.inlets = omega arith in
    record {
      untouched = untouched_more c.args.inlets.now at.inlets at.inlet-index _ c.make_room.new.self there c.make_room.ensures.untouched at.invariant.untouched;
      rooms = one_more HasRoom at.inlets at.inlet-index c.make_room.new.self there c.in_ok-make_room.ensures.room at.invariant.rooms;
    }

pub returns-in_err-desks-clause-untouched : goal.returns-in_err-desks-clause-untouched
returns-in_err-desks-clause-untouched c = c.loop-inlet.invariant.untouched

pub returns-in_err-ends-clause-untouched : goal.returns-in_err-ends-clause-untouched
returns-in_err-ends-clause-untouched c = c.loop-inlet.invariant.untouched

pub returns-clause-untouched : goal.returns-clause-untouched
returns-clause-untouched c = c.loop-inlet.invariant.untouched

pub returns-clause-rooms : goal.returns-clause-rooms
returns-clause-rooms c = λ k d within. c.loop-inlet.invariant.rooms k d (omega (arith, within))

pub returns-clause-desks : goal.returns-clause-desks
returns-clause-desks c = (c.in_ok-desks.ensures.items, omega (arith, c.in_ok-desks.ensures.capacity))

pub returns-clause-ends : goal.returns-clause-ends
returns-clause-ends c = (c.in_ok-ends.ensures.items, omega (arith, c.in_ok-ends.ensures.capacity))
