use Rattle.std.proofs.Common.{◌∙◌, ap, sym}
use Rattle.std.specs.Prelude.{is_some}
use Rattle.rad_server.proofs.Keeping.{found_place, none_found}
use Rattle.rad_server.proofs.sending.client_queues.ClientQueues.put_or_add.Goals as goal

pub put-requires : goal.put-requires
put-requires c = λ d. found_place c.args.client c.args.self.now.list.items c.place_of.result c.in-Some.place c.place_of.ensures c.in-Some.is d ∙ sym c.requires

pub add-requires-clause-others : goal.add-requires-clause-others
add-requires-clause-others c = none_found c.args.client c.args.self.now.list.items c.place_of.result c.place_of.ensures (ap is_some c.in-None.is)
