use Rattle.std.proofs.Common.{[], ◌∷◌, ◌++◌, ap, sym, ◌∙◌}
use Rattle.rad_server.specs.internal.Keeping.{first_at, sent_departure}
use Rattle.rad_server.specs.internal.Taken.{taken}
use Rattle.rad_server.proofs.Accounts.{first_same, taken_more}
use Rattle.rad_server.proofs.sending.departing.try_first.Goals as goal

pub returns-in-Some-take-clause-taken : goal.returns-in-Some-take-clause-taken
returns-in-Some-take-clause-taken g c =
    let was = taken c.args.account.now.gone.passed in
    let same = first_same (first_at c.args.kept.now.queues.list.items c.args.place) c.in-Some-take.gone c.in-Some.first c.in-Some.ensures (sym c.in-Some-take.is ∙ c.take.ensures.first) in
    taken_more g.S.DatagramSocket.took c.args.sockets.now c.send_from.new.sockets (sent_departure c.in-Some.first) c.send_from.result was (taken c.went.new.self.gone.passed)
    c.send_from.ensures c.in-Accepted.is (c.went.ensures.taken ∙ ap (λ d. was ++ d ∷ []) (c.sent.ensures.departure ∙ sym same))
