use Rattle.std.proofs.Common.{◌∙◌, ap, arith, map}
use Rattle.rad_server.specs.internal.Keeping.{departure_of, kept_in}
use Rattle.rad_server.proofs.Keeping.{removed}
use Rattle.rad_server.proofs.sending.client_queues.ClientQueues.remove_empty.Goals as goal

pub returns-then-is_empty_at : goal.returns-then-is_empty_at
returns-then-is_empty_at c =
    ap kept_in c.remove.ensures.items
    ∙ removed c.args.self.now.list.items c.args.place c.remove.result
    (omega (arith, c.args.self.now.list.ok.0, c.is_empty_at.ensures.within c.if-is_empty_at.true))
    (ap (map departure_of) (c.is_empty_at.ensures.none c.if-is_empty_at.true c.remove.result))
