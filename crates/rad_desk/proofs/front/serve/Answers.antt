use Rattle.std.proofs.Common.{refl}
use Rattle.rad_desk.proofs.CallsJoined.{passes_none}
use Rattle.rad_desk.proofs.FrontWork.{serves_once}
use Rattle.rad_desk.proofs.front.serve.Goals as goal

pub returns-clause-serves : goal.returns-clause-serves
returns-clause-serves g c =
    serves_once c.args.arrival.now.socket c.args.arrival.now.from c.args.incoming.now c.now-moment.result c.args.shift.now.proxy.now
    (record { before = c.args.datagram.now; after = c.handle-result.new.written }) (g.E.Entrance.outcomes c.args.entrance.now)
    c.handle-result.result c.handle-result.ensures _ c.tell.ensures _ refl _ _ _ c.now-moment.ensures c.answer.ensures.replies

pub returns-then-not-may-clause-serves : goal.returns-then-not-may-clause-serves
returns-then-not-may-clause-serves g c = passes_none _ _ _ (c.if-is_request.ensures, refl, refl) refl
