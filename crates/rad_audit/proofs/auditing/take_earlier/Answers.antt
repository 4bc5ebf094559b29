use Rattle.rad_audit.specs.declared.judging.Content.TheVariants as content
use Rattle.rad_audit.proofs.Stands.{alike_follow, on_ok}
use Rattle.rad_audit.proofs.auditing.take_earlier.Goals as goal

pub returns-in-Some : goal.returns-in-Some
returns-in-Some g c =
    on_ok c.tell.result (λ config. alike_follow config (content.AgainEarlier c.args.count.now) c.args.known.now.runs c.pass_line.new.known.runs c.take_earlier.new.self c.pass_line.ensures (c.take_earlier.ensures config))

pub returns-in-None : goal.returns-in-None
returns-in-None g c = λ config. alike_follow config (content.AgainEarlier c.args.count.now) c.args.known.now.runs c.pass_line.new.known.runs c.take_earlier.new.self c.pass_line.ensures (c.take_earlier.ensures config)
