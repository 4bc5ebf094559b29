use Rattle.rad_server.specs.internal.Keeping.{sent_departure}
use Rattle.rad_server.specs.internal.Taken.{taken}
use Rattle.rad_server.proofs.Accounts.{taken_more}
use Rattle.rad_server.proofs.sending.departing.hand_now.Goals as goal

pub returns-in-Accepted-clause-taken : goal.returns-in-Accepted-clause-taken
returns-in-Accepted-clause-taken g c =
    taken_more g.S.DatagramSocket.took c.args.sockets.now c.send_from.new.sockets (sent_departure c.args.sent) c.send_from.result (taken c.args.account.now.gone.passed) (taken c.went.new.self.gone.passed)
    c.send_from.ensures c.in-Accepted.is c.went.ensures.taken
