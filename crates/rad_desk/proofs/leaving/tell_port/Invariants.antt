use Rattle.std.proofs.Common.{◌≡◌, ◌-◌}
use Rattle.std.specs.List.{flat_map, range_with_len}
use Rattle.rad_desk.specs.Leaving.{left_with, left_at, left_under}
use Rattle.rad_desk.proofs.leaving.tell_port.Given as goal

-- What is left to tell, behind what was told, is all that is left.
abbrev pub invariant-loop-identifier : goal.invariant-loop-identifier
invariant-loop-identifier g l =
    left_with (g.L.Ledger.left l.ledger) (flat_map (left_at l.lane l.outstanding l.port) (range_with_len l.identifier (256 - l.identifier)))
    ≡ left_with (g.L.Ledger.left l.initial.ledger) (left_under l.lane l.outstanding l.port)
