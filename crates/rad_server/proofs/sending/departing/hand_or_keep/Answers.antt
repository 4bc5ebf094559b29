use Rattle.rad_server.specs.internal.Accounts.{kept_list}
use Rattle.rad_server.specs.internal.Keeping.{sent_departure}
use Rattle.rad_server.specs.internal.Taken.{given, taken}
use Rattle.rad_server.proofs.Accounts.{goes_at_once, taken_more}
use Rattle.rad_server.proofs.sending.departing.hand_or_keep.Goals as goal

pub returns-in-Accepted-clause-order : goal.returns-in-Accepted-clause-order
returns-in-Accepted-clause-order g c =
    goes_at_once (given c.args.account.now.gone.passed) (given c.went.new.self.gone.passed) (kept_list c.args.kept.now) (sent_departure c.args.sent)
    c.went.ensures.gone (c.has.ensures c.if-has.false)

pub returns-in-Accepted-clause-taken : goal.returns-in-Accepted-clause-taken
returns-in-Accepted-clause-taken g c =
    taken_more g.S.DatagramSocket.took c.args.sockets.now c.send_from.new.sockets (sent_departure c.args.sent) c.send_from.result (taken c.args.account.now.gone.passed) (taken c.went.new.self.gone.passed)
    c.send_from.ensures c.in-Accepted.is c.went.ensures.taken
