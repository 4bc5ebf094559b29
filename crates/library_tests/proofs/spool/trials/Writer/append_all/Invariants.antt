use Rattle.spool_files.specs.Settled.{IsSettledFile}
use Rattle.library_tests.proofs.spool.trials.Writer.append_all.Given as goal

abbrev pub invariant-loop-step : goal.invariant-loop-step
invariant-loop-step l = IsSettledFile l.segment
