use Rattle.std.proofs.Common.{◌≡◌, take}
use Rattle.rad_console.specs.Closing.{outstanding_at}
use Rattle.rad_console.specs.Totals.{count_in_all}
use Rattle.rad_console.proofs.closing.count_outstanding.Given as goal

abbrev pub invariant-loop-end : goal.invariant-loop-end
invariant-loop-end l = l.count ≡ count_in_all outstanding_at (take l.end-index l.ends)
