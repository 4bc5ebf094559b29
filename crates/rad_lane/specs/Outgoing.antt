-- The responses of a lane, in the order in which it gave them (own).
use Rattle.std.specs.Prelude.{◌≡◌, List, length, map as each}
use Rattle.std.specs.List.{range_with_len}
use Rattle.rad_lane.specs.declared.outgoing.Outgoing.{Outgoing}

-- The serials of the responses are 0, 1, 2 and so on.
abbrev pub InOrder : List Outgoing → Type 0
InOrder responses = each (λ r. r.serial) responses ≡ range_with_len 0 (length responses)
