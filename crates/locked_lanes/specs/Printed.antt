-- The faults of a desk: their names and places, and how they are printed.
use Rattle.std.specs.Prelude.{ℕ, List, ◌+◌, codes}
use Rattle.rad_lane.specs.Printed.{hear_fault_name, hear_fault_place, hear_fault_text}
use Rattle.locked_lanes.specs.declared.hearing.DeskFault.{DeskFault}
use Rattle.locked_lanes.specs.declared.hearing.DeskFault.TheVariants.{RingFull, Lane}

-- The name of a fault.
abbrev pub desk_fault_name : DeskFault → List ℕ
desk_fault_name RingFull = codes "RingFull"
desk_fault_name (Lane fault) = hear_fault_name fault

-- The place of a fault among all: a full ring is the first, and the lane's follow in their order.
abbrev pub desk_fault_place : DeskFault → ℕ
desk_fault_place RingFull = 0
desk_fault_place (Lane fault) = hear_fault_place fault + 1

-- A full ring is printed by its name, and a lane's fault as the lane prints it.
abbrev pub desk_fault_text : DeskFault → List ℕ
desk_fault_text RingFull = codes "RingFull"
desk_fault_text (Lane fault) = hear_fault_text fault
