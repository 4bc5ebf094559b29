use Rattle.rad_desk.specs.Leaving.{left_under}
use Rattle.rad_desk.proofs.LeftTold.{range_start, range_onward, range_over, pairs_are}
use Rattle.rad_desk.proofs.leaving.tell_outstanding.Goals as goal

pub loop-port-init : goal.loop-port-init
loop-port-init g c = range_start (left_under c.args.lane c.args.outstanding.now) 4 _ _ (pairs_are c.args.lane c.args.outstanding.now)

pub loop-port-preserved : goal.loop-port-preserved
loop-port-preserved g c =
    range_onward (left_under c.args.lane c.args.outstanding.now) c.loop-port.port 4 _ _ _ _ c.loop-port-test.true c.tell_port.ensures c.loop-port.invariant

pub returns : goal.returns
returns g c = range_over (left_under c.args.lane c.args.outstanding.now) c.loop-port.port 4 _ _ _ c.loop-port-test.false c.loop-port.invariant
