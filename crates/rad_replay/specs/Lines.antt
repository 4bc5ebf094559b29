-- The lines of the results of events, without their line feeds.
use Rattle.std.specs.Prelude.{ℕ, List, ◌++◌, codes, Option, Some, None, Result, Ok, Err}
use Rattle.std.specs.Fmt.{decimal}
use Rattle.rad_realms.specs.Printed.{address_text, dropped_text}
use Rattle.rad_lane.specs.Printed.{refusal_text, turn_fault_text}
use Rattle.rad_lane.specs.declared.accepting.Taken.TheVariants.{New, Waiting, Again}
use Rattle.rad_lane.specs.declared.stepping.Action.{Action}
use Rattle.rad_lane.specs.declared.stepping.Action.TheVariants.{Sent, Resent, Probed, WentDown, WentUp, Idle}
use Rattle.rad_lane.specs.declared.outgoing.Outgoing.{Outgoing}
use Rattle.rad_lane.specs.declared.turning.TurnFault.{TurnFault}
use Rattle.rad_desk.specs.Printed.{desk_fault_text}
use Rattle.rad_desk.specs.declared.handling.Handled.{Handled}
use Rattle.rad_desk.specs.declared.handling.Handled.TheVariants.{Taken, Answered}
use Rattle.locked_lanes.specs.declared.hearing.DeskFault.{DeskFault}
use Rattle.locked_lanes.specs.declared.hearing.Told.{Told}
use Rattle.locked_lanes.specs.declared.hearing.Told.TheVariants.{Answer, ProbeAnswered}
use Rattle.rad_replay.specs.PacketText.{packet_text, sent_head_text, sent_text}
use Rattle.rad_replay.specs.declared.lines.Cut.{Cut}
use Rattle.rad_replay.specs.declared.path.PathFault.{PathFault}
use Rattle.rad_replay.specs.declared.path.PathFault.TheVariants.{Dropped, Refused}

-- A lane's number, and the number of a request or of a response.
abbrev pub request_text : ℕ → ℕ → List ℕ
request_text lane number = decimal lane ++ codes " " ++ decimal number

-- The result of a checked datagram of a NAS, with the octets of the packet that was written for it.
abbrev pub handled_text : Handled → List ℕ → List ℕ
handled_text Answered written = codes "status " ++ packet_text written
handled_text (Taken lane (New number)) written = codes "new " ++ request_text lane number
handled_text (Taken lane (Waiting number)) written = codes "waiting " ++ request_text lane number
handled_text (Taken lane (Again number)) written =
    codes "again " ++ request_text lane number ++ codes " " ++ packet_text written

-- Why the datagram was neither taken nor answered.
abbrev pub path_fault_text : PathFault → List ℕ
path_fault_text (Dropped reason) = codes "dropped " ++ dropped_text reason
path_fault_text (Refused reason) = codes "refused " ++ refusal_text reason

-- The line of a NAS's datagram, with the octets of the packet that was written for it.
abbrev pub nas_line : Result Handled PathFault → List ℕ → List ℕ
nas_line (Ok handled) written = codes "nas: " ++ handled_text handled written
nas_line (Err fault) written = codes "nas: " ++ path_fault_text fault

-- An idle step, with the moment before which there is nothing to do, if that is known.
abbrev pub idle_text : Option ℕ → List ℕ
idle_text None = codes "idle"
idle_text (Some next) = codes "idle " ++ decimal next

-- The line of a step, with the source port that is printed, if any, and the octets of the packet that the step sends.
abbrev pub step_line : Action → Option ℕ → List ℕ → List ℕ
step_line (Sent number slot) port sent = codes "step: sent " ++ sent_text port sent
step_line (Resent number slot) port sent = codes "step: resent " ++ sent_text port sent
step_line (Probed slot) port sent = codes "step: probed " ++ sent_head_text port sent
step_line WentDown port sent = codes "step: down"
step_line WentUp port sent = codes "step: up"
step_line (Idle next) port sent = codes "step: " ++ idle_text next

-- The line of a datagram of a lane's home server.
abbrev pub home_line : ℕ → Result Told DeskFault → List ℕ
home_line lane (Ok (Answer serial)) = codes "home: answer " ++ request_text lane serial
home_line lane (Ok ProbeAnswered) = codes "home: probe"
home_line lane (Err fault) = codes "home: dropped " ++ desk_fault_text fault

-- The address and port that a response goes to.
abbrev pub receiver_text : List ℕ → ℕ → List ℕ
receiver_text address port = address_text address ++ codes " " ++ decimal port

-- The line of a response that was taken, or of none.
abbrev pub take_line : Option Outgoing → List ℕ
take_line None = codes "take: none"
take_line (Some response) =
    codes "take: " ++ receiver_text response.client response.port ++ codes " " ++ packet_text response.reply.response

-- The line of the removal of a volume from a lane's book.
abbrev pub turn_line : ℕ → Result Cut TurnFault → List ℕ
turn_line lane (Ok cut) =
    codes "turn: " ++ decimal lane ++ codes " " ++ decimal cut.count ++ codes " " ++ decimal cut.opening
turn_line lane (Err fault) = codes "turn: refused " ++ turn_fault_text fault
