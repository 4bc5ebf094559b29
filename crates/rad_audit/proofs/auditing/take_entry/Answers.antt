use Rattle.rad_audit.specs.declared.judging.Content.TheVariants as content
use Rattle.rad_audit.proofs.Stands.{alike_follow, on_ok}
use Rattle.rad_audit.proofs.auditing.take_entry.Goals as goal

pub returns : goal.returns
returns g c =
    on_ok c.tell_entry.result (λ config. alike_follow config (content.Entry c.args.judged.now) c.args.known.now.runs c.pass_line.new.known.runs c.take_entry.new.self c.pass_line.ensures (c.in_ok-taken.ensures config))
