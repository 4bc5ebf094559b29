use Rattle.std.proofs.Common.{◌∙◌, ap}
use Rattle.rad_server.specs.internal.Taken.{given, taken}
use Rattle.rad_server.proofs.Accounts.{given_one, taken_one}
use Rattle.rad_server.proofs.sending.departing.Account.handed.Goals as goal

pub returns-clause-handed : goal.returns-clause-handed
returns-clause-handed g c = ap given c.departed.ensures ∙ given_one c.args.self.now.handed.passed c.args.sent.socket c.args.sent.to c.args.sent.octets.now c.args.delivery

pub returns-clause-taken : goal.returns-clause-taken
returns-clause-taken g c = ap taken c.departed.ensures ∙ taken_one c.args.self.now.handed.passed c.args.sent.socket c.args.sent.to c.args.sent.octets.now c.args.delivery
