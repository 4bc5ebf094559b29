use Rattle.std.proofs.Common.{◌≡◌, ◌-◌}
use Rattle.std.specs.List.{flat_map, range_with_len}
use Rattle.rad_desk.specs.Leaving.{left_with, left_under, left_of_pairs}
use Rattle.rad_desk.proofs.leaving.tell_outstanding.Given as goal

-- What is left to tell, behind what was told, is all that is left.
abbrev pub invariant-loop-port : goal.invariant-loop-port
invariant-loop-port g l =
    left_with (g.L.Ledger.left l.ledger) (flat_map (left_under l.lane l.outstanding) (range_with_len l.port (4 - l.port)))
    ≡ left_with (g.L.Ledger.left l.initial.ledger) (left_of_pairs l.lane l.outstanding)
