use Rattle.rad_desk.specs.Once.{terms_of}
use Rattle.rad_desk.proofs.FrontWork.{taken_after, taken_dropped, taken_none, taken_recalled}
use Rattle.rad_desk.proofs.front.take_in.Goals as goal

pub returns-in-None-clause-takes_in : goal.returns-in-None-clause-takes_in
returns-in-None-clause-takes_in g c =
    let arrival = c.in-Some.arrival in
    taken_after (terms_of c.args.config.now (g.M.Memory.remembered c.args.memory.now)) _ arrival.socket arrival.from arrival.octets.now c.in-Ok.incoming c.in-Ok.ensures _ _ _ _ _ c.in-Some.ensures.receives c.serve.ensures.serves

pub returns-in-Some-recall-clause-takes_in : goal.returns-in-Some-recall-clause-takes_in
returns-in-Some-recall-clause-takes_in g c =
    let arrival = c.in-Some.arrival in
    taken_recalled (terms_of c.args.config.now (g.M.Memory.remembered c.args.memory.now)) arrival.socket arrival.from arrival.octets.now c.in-Ok.incoming c.in-Ok.ensures _ c.in-Some-recall.ensures _ _ _ _ c.in-Some.ensures.receives c.send_recalled.ensures.sends

pub returns-in-Err-clause-takes_in : goal.returns-in-Err-clause-takes_in
returns-in-Err-clause-takes_in g c =
    let arrival = c.in-Some.arrival in
    taken_dropped (terms_of c.args.config.now (g.M.Memory.remembered c.args.memory.now)) arrival.socket arrival.from arrival.octets.now c.in-Err.reason c.in-Err.ensures _ _ _ c.in-Some.ensures.receives

pub returns-in_default-clause-takes_in : goal.returns-in_default-clause-takes_in
returns-in_default-clause-takes_in g c = taken_none (terms_of c.args.config.now (g.M.Memory.remembered c.args.memory.now)) _ _ _ c.in_default.ensures.receives
