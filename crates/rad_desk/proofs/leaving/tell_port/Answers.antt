use Rattle.std.proofs.Common.{◌∙◌, ap}
use Rattle.rad_desk.specs.Leaving.{left_with, left_at, left_in}
use Rattle.rad_desk.proofs.LeftTold.{range_start, range_onward, range_over, under_is}
use Rattle.rad_desk.proofs.leaving.tell_port.Goals as goal

pub loop-identifier-init : goal.loop-identifier-init
loop-identifier-init g c = range_start (left_at c.args.lane c.args.outstanding.now c.args.port) 256 _ _ (under_is c.args.lane c.args.outstanding.now c.args.port)

pub loop-identifier-preserved : goal.loop-identifier-preserved
loop-identifier-preserved g c =
    range_onward (left_at c.args.lane c.args.outstanding.now c.args.port) c.loop-identifier.identifier 256 _ _ _ _ c.loop-identifier-test.true
    (c.tell_found.ensures ∙ ap (λ o. left_with (g.L.Ledger.left c.loop-identifier.ledger) (left_in c.args.lane o)) c.get.ensures.value) c.loop-identifier.invariant

pub returns : goal.returns
returns g c =
    range_over (left_at c.args.lane c.args.outstanding.now c.args.port) c.loop-identifier.identifier 256 _ _ _ c.loop-identifier-test.false c.loop-identifier.invariant
