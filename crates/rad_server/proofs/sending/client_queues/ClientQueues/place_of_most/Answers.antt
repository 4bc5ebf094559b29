use Rattle.std.proofs.Common.{arith}
use Rattle.rad_server.proofs.Keeping.{longest_more, longest_of_all}
use Rattle.rad_server.proofs.sending.client_queues.ClientQueues.place_of_most.Goals as goal

pub loop-place-preserved : goal.loop-place-preserved
loop-place-preserved c =
    longest_more c.args.self.now.list.items c.loop-place.place c.loop-place.most c.longer_of-most.result
    (omega (arith, c.args.self.now.list.ok.0, c.loop-place-test.true, c.loop-place.auto.place-end, c.len-place-end.ensures))
    c.loop-place.invariant c.longer_of-most.ensures.one c.longer_of-most.ensures.other

pub returns : goal.returns
returns c =
    longest_of_all c.args.self.now.list.items c.loop-place.place c.loop-place.most
    (omega (arith, c.args.self.now.list.ok.0, c.loop-place-test.false, c.loop-place.auto.place-end, c.len-place-end.ensures))
    c.loop-place.invariant
