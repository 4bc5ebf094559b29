use Rattle.std.proofs.Common.{sym, ◌∙◌}
use Rattle.rad_server.proofs.Keeping.{none_for, none_found}
use Rattle.rad_server.proofs.sending.client_queues.ClientQueues.has.Goals as goal

pub returns : goal.returns
returns c = λ none.
    none_for c.args.client c.args.self.now.list.items c.args.self.now.own
    (none_found c.args.client c.args.self.now.list.items c.place_of.result c.place_of.ensures (sym c.is_some.ensures ∙ none))
