-- The reasons by which the events of one metric differ (own).
use Rattle.std.specs.Prelude.{ℕ, ◌+◌, List, codes, Option, Some, None}
use Rattle.rad_realms.specs.Printed.{dropped_name, dropped_place}
use Rattle.rad_lane.specs.Printed.{refusal_text, refusal_place}
use Rattle.locked_lanes.specs.Printed.{desk_fault_name, desk_fault_place}
use Rattle.rad_desk.specs.declared.gate.Repeat.TheVariants as repeat
use Rattle.rad_desk.specs.declared.gate.UpReason.{UpReason}
use Rattle.rad_desk.specs.declared.gate.UpReason.TheVariants as up
use Rattle.rad_metrics.specs.declared.sample.Label.{Label}
use Rattle.rad_metrics.specs.declared.sample.Label.TheVariants as label
use Rattle.rad_metrics.specs.declared.reason.Reason.{Reason}
use Rattle.rad_metrics.specs.declared.reason.Reason.TheVariants as reason

abbrev pub up_place : UpReason → ℕ
up_place up.Answered = 0
up_place up.ProbeAnswered = 1
up_place up.DownWaitOver = 2

abbrev pub up_text : UpReason → List ℕ
up_text up.Answered = codes "answered"
up_text up.ProbeAnswered = codes "probe answered"
up_text up.DownWaitOver = codes "down_wait over"

-- The place of a reason among those of its metric. A datagram that the home server did not send comes before those of
-- the home server that are dropped.
abbrev pub reason_place : Reason → ℕ
reason_place reason.None = 0
reason_place (reason.Dropped why) = dropped_place why
reason_place (reason.Refused why) = refusal_place why
reason_place reason.NotHome = 0
reason_place (reason.Unheard why) = desk_fault_place why + 1
reason_place (reason.Repeat repeat.Waiting) = 0
reason_place (reason.Repeat repeat.Answered) = 1
reason_place (reason.Up why) = up_place why

-- The name of a reason, as a label and in the log lines of sums.
abbrev pub reason_name : Reason → List ℕ
reason_name reason.None = codes ""
reason_name (reason.Dropped why) = dropped_name why
reason_name (reason.Refused why) = refusal_text why
reason_name reason.NotHome = codes "NotHome"
reason_name (reason.Unheard why) = desk_fault_name why
reason_name (reason.Repeat repeat.Waiting) = codes "waiting"
reason_name (reason.Repeat repeat.Answered) = codes "again"
reason_name (reason.Up why) = up_text why

abbrev pub reason_label : Reason → Option Label
reason_label reason.None = None
reason_label why = Some (label.Reason why)
