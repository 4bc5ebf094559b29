use Rattle.std.proofs.Common.{◌≡◌, take, map as each}
use Rattle.rad_desk.specs.Leaving.{left_with, untaken_left}
use Rattle.rad_desk.proofs.leaving.tell_responses.Given as goal

-- The requests of the responses so far were told.
abbrev pub invariant-loop-outgoing : goal.invariant-loop-outgoing
invariant-loop-outgoing g l =
    g.L.Ledger.left l.ledger ≡ left_with (g.L.Ledger.left l.initial.ledger) (each (untaken_left l.end.lane) (take l.outgoing-index l.responses))
