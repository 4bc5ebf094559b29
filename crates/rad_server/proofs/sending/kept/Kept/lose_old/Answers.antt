use Rattle.rad_server.proofs.Keeping.{old_taken}
use Rattle.rad_server.proofs.sending.kept.Kept.lose_old.Goals as goal

pub returns-clause-old : goal.returns-clause-old
returns-clause-old c =
    old_taken c.args.now c.args.self.now.queues.list.items c.place_of_old.result c.in_ok-place.place c.take.result c.place_of_old.ensures c.in_ok-place.was c.take.ensures.first
