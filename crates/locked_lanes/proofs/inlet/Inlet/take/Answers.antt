use Rattle.std.proofs.Common.{[], ◌∷◌, length, sym, ap, ◌∙◌, subst, arith, length-append}
use Rattle.rtrb.specs.Ring.{received}
use Rattle.rad_lane.specs.Outgoing.{InOrder}
use Rattle.locked_lanes.specs.Fates.{EachOnce}
use Rattle.locked_lanes.proofs.Fates.{once_more}
use Rattle.locked_lanes.proofs.Outlets.{in_order_more}
use Rattle.locked_lanes.proofs.inlet.Inlet.take.Goals as goal

pub invariant_of-self : goal.invariant_of-self
invariant_of-self c =
    let before = received c.args.self.now.taker in
    let response = c.in-Ok.response in
    let popped = c.in-Ok.ensures.ok in
    let count = ap length popped.0 in
    record {
      in_order = subst InOrder (sym popped.0) (in_order_more before response c.args.self.now.in_order popped.2.serial);
      once = subst EachOnce (sym popped.0) (once_more before response c.args.self.now.once popped.2.first);
      counted = omega (arith, count, length-append before (response ∷ []), popped.2.serial);
    }

pub invariant_of-self-in-Err : goal.invariant_of-self-in-Err
invariant_of-self-in-Err c =
    let same = c.in-Err.ensures.empty.0 in
    record {
      in_order = subst InOrder (sym same) c.args.self.now.in_order;
      once = subst EachOnce (sym same) c.args.self.now.once;
      counted = ap length same ∙ c.args.self.now.counted;
    }
