use Rattle.std.proofs.Common.{take}
use Rattle.rad_audit.specs.Telling.{Gets, TellsRuns}
use Rattle.rad_audit.proofs.auditing.tell_runs.Given as goal

-- the runs so far are told
abbrev pub invariant-loop-name : goal.invariant-loop-name
invariant-loop-name g l =
    Gets (TellsRuns l.fn.known.runs (take l.name-index l.fn.known.runs.names.items)) (g.W.Write.contents l.fn.report.outputs.lines.now) (g.W.Write.contents l.report.outputs.lines.now)
