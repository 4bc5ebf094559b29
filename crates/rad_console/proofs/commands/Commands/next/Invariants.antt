use Rattle.std.proofs.Common.{◌++◌}
use Rattle.std.specs.Io.KnownBytes.{prepend_known}
use Rattle.rad_console.proofs.CommandLemmas.{HasReadOf}
use Rattle.rad_console.proofs.commands.Commands.next.Given as goal

abbrev pub invariant-loop : goal.invariant-loop
invariant-loop g l =
    HasReadOf (prepend_known (l.fn.self.line ++ l.fn.self.unread) (g.R.Read.remaining l.fn.self.reader))
    l.self.line l.self.unread (g.R.Read.remaining l.self.reader)
