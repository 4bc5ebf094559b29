-- The faults of a lane: their names and places, and how they are printed.
use Rattle.std.specs.Prelude.{ℕ, List, ◌++◌, codes}
use Rattle.rad_packet.specs.Faults.{read_fault_text}
use Rattle.rad_lane.specs.declared.accepting.Refusal.{Refusal}
use Rattle.rad_lane.specs.declared.accepting.Refusal.TheVariants.{Draining, BookFull, QueueFull, TooLong, OutOfMemory, WrongLane}
use Rattle.rad_lane.specs.declared.hearing.HearFault.{HearFault}
use Rattle.rad_lane.specs.declared.hearing.HearFault.TheVariants as hear
use Rattle.rad_lane.specs.declared.turning.TurnFault.{TurnFault}
use Rattle.rad_lane.specs.declared.turning.TurnFault.TheVariants as turn

-- Why a request is refused.
abbrev pub refusal_text : Refusal → List ℕ
refusal_text Draining = codes "Draining"
refusal_text BookFull = codes "BookFull"
refusal_text QueueFull = codes "QueueFull"
refusal_text TooLong = codes "TooLong"
refusal_text OutOfMemory = codes "OutOfMemory"
refusal_text WrongLane = codes "WrongLane"

-- The place of a refusal among all, in their order.
abbrev pub refusal_place : Refusal → ℕ
refusal_place Draining = 0
refusal_place BookFull = 1
refusal_place QueueFull = 2
refusal_place TooLong = 3
refusal_place OutOfMemory = 4
refusal_place WrongLane = 5

-- The name of the reason for which a datagram from the home server is not heard. All read faults have one.
abbrev pub hear_fault_name : HearFault → List ℕ
hear_fault_name (hear.Unread fault) = codes "Unread"
hear_fault_name hear.WrongCode = codes "WrongCode"
hear_fault_name hear.Unknown = codes "Unknown"
hear_fault_name hear.BadAuthenticator = codes "BadAuthenticator"
hear_fault_name hear.MessageAuthenticatorHere = codes "MessageAuthenticatorHere"
hear_fault_name hear.NoProxyState = codes "NoProxyState"
hear_fault_name hear.OutOfMemory = codes "OutOfMemory"

-- The place of such a reason among all, in their order. All read faults have one.
abbrev pub hear_fault_place : HearFault → ℕ
hear_fault_place (hear.Unread fault) = 0
hear_fault_place hear.WrongCode = 1
hear_fault_place hear.Unknown = 2
hear_fault_place hear.BadAuthenticator = 3
hear_fault_place hear.MessageAuthenticatorHere = 4
hear_fault_place hear.NoProxyState = 5
hear_fault_place hear.OutOfMemory = 6

-- Such a reason as it is printed: its name; after `Unread` follows the name of the read fault.
abbrev pub hear_fault_text : HearFault → List ℕ
hear_fault_text (hear.Unread fault) = codes "Unread " ++ read_fault_text fault
hear_fault_text fault = hear_fault_name fault

-- Why no volume is returned.
abbrev pub turn_fault_text : TurnFault → List ℕ
turn_fault_text turn.NothingToTurn = codes "NothingToTurn"
turn_fault_text turn.OutOfMemory = codes "OutOfMemory"
