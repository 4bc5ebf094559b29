use Rattle.std.proofs.Common.{length, sym, ap, ◌∙◌, subst}
use Rattle.rad_lane.specs.Outgoing.{InOrder}
use Rattle.locked_lanes.specs.Fates.{EachOnce}
use Rattle.locked_lanes.proofs.desk.Desk.waiting.Goals as goal

pub invariant_of-inlet : goal.invariant_of-inlet
invariant_of-inlet c =
    let same = c.slots_beside.ensures.looked.1 in
    let old = c.args.inlet.now in
    record { in_order = subst InOrder (sym same) old.in_order; once = subst EachOnce (sym same) old.once; counted = ap length same ∙ old.counted }
