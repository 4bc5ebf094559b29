use Rattle.rad_server.proofs.Keeping.{len_found, len_missing}
use Rattle.rad_server.proofs.sending.client_queues.ClientQueues.len_at.Goals as goal

pub returns-in-Some : goal.returns-in-Some
returns-in-Some c = len_found c.args.self.now.list.items c.deref.result.now c.args.place c.in-Some.queue.now c.len.result c.deref.ensures.value c.in-Some.ensures.lookup.0 c.in-Some.ensures.lookup.1 c.len.ensures

pub returns-in-None : goal.returns-in-None
returns-in-None c = len_missing c.args.self.now.list.items c.deref.result.now c.args.place c.deref.ensures.value c.in-None.ensures.lookup.0
