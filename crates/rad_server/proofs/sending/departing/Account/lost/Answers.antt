use Rattle.std.proofs.Common.{◌∙◌, ap}
use Rattle.rad_desk.specs.declared.wire.Delivery.TheVariants.{Fault}
use Rattle.rad_server.specs.internal.Taken.{given, taken}
use Rattle.rad_server.proofs.Accounts.{given_one, taken_not}
use Rattle.rad_server.proofs.sending.departing.Account.lost.Goals as goal

pub returns-clause-gone : goal.returns-clause-gone
returns-clause-gone g c = ap given c.departed.ensures ∙ given_one c.args.self.now.gone.passed c.args.sent.socket c.args.sent.to c.args.sent.octets.now Fault

pub returns-clause-taken : goal.returns-clause-taken
returns-clause-taken g c = ap taken c.departed.ensures ∙ taken_not c.args.self.now.gone.passed c.args.sent.socket c.args.sent.to c.args.sent.octets.now
