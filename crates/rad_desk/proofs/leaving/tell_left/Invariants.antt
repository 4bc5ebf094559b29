use Rattle.std.proofs.Common.{◌≡◌, drop}
use Rattle.rad_desk.specs.Leaving.{left_with, left_of_all}
use Rattle.rad_desk.proofs.leaving.tell_left.Given as goal

-- What is left to tell, behind what was told, is all that is left.
abbrev pub invariant-loop-end : goal.invariant-loop-end
invariant-loop-end g l =
    left_with (g.L.Ledger.left l.ledger) (left_of_all (drop l.end-index l.end-items) l.queued.items)
    ≡ left_with (g.L.Ledger.left l.initial.ledger) (left_of_all l.end-items l.initial.queued.items)
