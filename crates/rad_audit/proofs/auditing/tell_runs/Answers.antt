use Rattle.std.proofs.Common.{rules}
use Rattle.rad_audit.proofs.Tells.{gets_next}
use Rattle.rad_audit.proofs.auditing.tell_runs.Goals as goal

pub loop-name-preserved : goal.loop-name-preserved
loop-name-preserved g c =
    gets_next c.args.known.now.runs c.args.known.now.runs.names.items c.loop-name.name-index _ _ _ _ (search rules) (search rules) c.loop-name.invariant c.in_ok-has_untied.ensures.printed
