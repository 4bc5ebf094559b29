use Rattle.rad_audit.specs.declared.judging.Content.TheVariants as content
use Rattle.rad_audit.proofs.Stands.{alike_follow, on_ok}
use Rattle.rad_audit.proofs.auditing.take_left.Goals as goal

pub returns-in-Some : goal.returns-in-Some
returns-in-Some g c =
    on_ok c.tell.result (alike_follow c.args.config.now (content.Left c.args.left.now) c.args.known.now.runs c.pass_line.new.known.runs c.take_left.new.self c.pass_line.ensures (c.in_ok-reason.ensures c.args.config.now c.secret_of_client-client.ensures))

pub returns-in-None : goal.returns-in-None
returns-in-None g c =
    on_ok c.left_row.result (alike_follow c.args.config.now (content.Left c.args.left.now) c.args.known.now.runs c.pass_line.new.known.runs c.take_left.new.self c.pass_line.ensures (c.in_ok-reason.ensures c.args.config.now c.secret_of_client-client.ensures))
