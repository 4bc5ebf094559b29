use Rattle.std.proofs.Common.{refl, arith}
use Rattle.rad_server.proofs.Keeping.{full_at, put_at}
use Rattle.rad_server.proofs.sending.client_queues.ClientQueues.put.Goals as goal

pub returns-in-Some-clause-order : goal.returns-in-Some-clause-order
returns-in-Some-clause-order c =
    (put_at c.args.self.now.list.items c.args.place c.put.new.self c.in-Some.queue.now c.args.datagram c.put.result
    (omega (arith, c.args.self.now.list.ok.0, c.in-Some.ensures.variant.0 refl)) c.args.self.now.own c.args.self.now.apart c.in-Some.ensures.value c.requires c.put.ensures.client c.put.ensures.puts).order

pub invariant_of-self : goal.invariant_of-self
invariant_of-self c =
    let after = put_at c.args.self.now.list.items c.args.place c.put.new.self c.in-Some.queue.now c.args.datagram c.put.result
    (omega (arith, c.args.self.now.list.ok.0, c.in-Some.ensures.variant.0 refl)) c.args.self.now.own c.args.self.now.apart c.in-Some.ensures.value c.requires c.put.ensures.client c.put.ensures.puts in
    record { own = after.own; apart = after.apart }

pub returns-in-Some-clause-full : goal.returns-in-Some-clause-full
returns-in-Some-clause-full c =
    full_at c.args.self.now.list.items c.args.place c.in-Some.queue.now c.put.new.self.datagrams.items c.args.datagram c.put.result
    (omega (arith, c.args.self.now.list.ok.0, c.in-Some.ensures.variant.0 refl)) c.args.self.now.own c.in-Some.ensures.value c.requires c.put.ensures.puts
