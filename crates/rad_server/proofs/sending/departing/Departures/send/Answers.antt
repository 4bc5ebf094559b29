use Rattle.std.proofs.Common.{◌++◌, ap, sym, ◌∙◌}
use Rattle.rad_server.specs.internal.Keeping.{waiting_in}
use Rattle.rad_server.specs.internal.Taken.{given}
use Rattle.rad_server.proofs.Accounts.{waits_one}
use Rattle.rad_server.proofs.sending.departing.Departures.send.Goals as goal

pub returns-in-Ok-clause-accounted : goal.returns-in-Ok-clause-accounted
returns-in-Ok-clause-accounted g c = λ sent was.
    let mid = c.make_room.new.self in
    let here = c.make_room.ensures.accounted sent was in
    record {
      handed = waits_one sent (given mid.account.handed.passed) (waiting_in mid.outbox) (waiting_in c.add.new.self) _ here.handed c.in-Ok.ensures;
      in_order = here.in_order;
    }

pub returns-in-Err-clause-accounted : goal.returns-in-Err-clause-accounted
returns-in-Err-clause-accounted g c = λ sent was.
    let mid = c.make_room.new.self in
    let here = c.make_room.ensures.accounted sent was in
    c.send_now.ensures.accounted sent (record {
      handed = here.handed ∙ ap (λ l. given mid.account.handed.passed ++ l) (sym c.in-Err.ensures);
      in_order = here.in_order;
    })
