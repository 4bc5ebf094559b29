use Rattle.rad_audit.proofs.Stands.{alike_more, hidden_follow}
use Rattle.rad_audit.proofs.auditing.take_hidden.Goals as goal

pub returns-in_default : goal.returns-in_default
returns-in_default g c = λ config. hidden_follow config c.args.hidden.now c.args.known.now.runs c.hide.new.self c.hide.ensures

pub returns : goal.returns
returns g c =
    λ config. hidden_follow config c.args.hidden.now c.args.known.now.runs c.pass_line.new.known.runs (alike_more c.args.known.now.runs c.hide.new.self c.pass_line.new.known.runs c.hide.ensures c.pass_line.ensures)
