use Rattle.std.proofs.Common.{sym, ◌∙◌}
use Rattle.rad_server.proofs.Keeping.{none_kept}
use Rattle.rad_server.proofs.sending.client_queues.ClientQueues.lose_of_most.Goals as goal

pub returns-clause-some : goal.returns-clause-some
returns-clause-some c = λ none. none_kept c.args.self.now.list.items c.place_of_most-place.result c.place_of_most-place.ensures (sym c.take.ensures.first ∙ none)
