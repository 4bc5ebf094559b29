use Rattle.rad_audit.specs.declared.judging.Content.TheVariants as content
use Rattle.rad_audit.proofs.Stands.{follow_alike, on_ok}
use Rattle.rad_audit.proofs.auditing.take_begin.Goals as goal

pub returns : goal.returns
returns g c =
    on_ok c.pass_begin.result (λ config. follow_alike config (content.Begin c.args.begin.now) c.args.known.now.runs c.begin_file.new.known.runs c.pass_begin.new.known.runs (c.in_ok-begin_file.ensures config) c.pass_begin.ensures)
