use Rattle.std.proofs.lemmas.Result.{on_ok_weaker}
use Rattle.rad_audit.specs.declared.judging.Content.TheVariants as content
use Rattle.rad_audit.proofs.Stands.{alike_follow, alike_more, end_follow}
use Rattle.rad_audit.proofs.auditing.take_end.Goals as goal

pub returns : goal.returns
returns g c =
    on_ok_weaker c.end_lanes.result (λ ends config.
    alike_follow config (content.End c.args.end.now) c.args.known.now.runs c.end.new.self c.end_lanes.new.runs (alike_more c.args.known.now.runs c.pass_line.new.known.runs c.end.new.self c.pass_line.ensures c.end.ensures)
    (end_follow config c.args.end.now c.end.new.self c.end_lanes.new.runs ends))
    c.end_lanes.ensures
