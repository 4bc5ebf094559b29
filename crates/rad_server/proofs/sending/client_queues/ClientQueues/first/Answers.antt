use Rattle.std.proofs.Common.{◌≡◌, None, MatchOption, subst, sym}
use Rattle.rad_server.specs.internal.Keeping.{IsFirst}
use Rattle.rad_server.proofs.Keeping.{first_found, first_missing}
use Rattle.rad_server.proofs.sending.client_queues.ClientQueues.first.Goals as goal

pub returns-in-Some : goal.returns-in-Some
returns-in-Some c =
    let first = first_found c.args.self.now.list.items c.deref.result.now c.args.place c.in-Some.queue.now c.deref.ensures.value c.in-Some.ensures.lookup.0 c.in-Some.ensures.lookup.1 in
    subst (λ o. MatchOption c.first_sent.result (o ≡ None) (λ sent. IsFirst o sent)) (sym first) c.first_sent.ensures

pub returns-in-None : goal.returns-in-None
returns-in-None c = first_missing c.args.self.now.list.items c.deref.result.now c.args.place c.deref.ensures.value c.in-None.ensures.lookup.0
