-- Which events are counted of what the workers report, and of whom (own).
use Rattle.std.specs.Prelude.{ℕ, ◌+◌, ◌==◌, if◌then◌else◌, Option, Some, None, slice_get}
use Rattle.rad_config.specs.declared.reading.address.Endpoint.{Endpoint}
use Rattle.rad_realms.specs.declared.checking.Dropped.TheVariants as dropped
use Rattle.rad_desk.specs.declared.gate.Worker.{Worker}
use Rattle.rad_desk.specs.declared.gate.Worker.TheVariants.{Front, Lane}
use Rattle.rad_desk.specs.declared.gate.WorkerReport.{WorkerReport}
use Rattle.rad_desk.specs.declared.gate.WorkerReport.TheVariants as report
use Rattle.rad_metrics.specs.declared.counted.Counted.{Counted}
use Rattle.rad_metrics.specs.declared.counted.Counted.TheVariants.{Dropped, Refused, Unheard, SendFaults, ReceiveFaults, WentDown, Sent, Probed, Cut, Marked, WentUp, ClientReceived, ClientAccepted, ClientRepeats, ClientResponses, ClientRefused, ClientDropped}
use Rattle.rad_metrics.specs.declared.event.CountedEvent.{CountedEvent}
use Rattle.rad_metrics.specs.declared.reason.Reason.{Reason}
use Rattle.rad_metrics.specs.declared.reason.Reason.TheVariants as reason

abbrev pub event : Counted → Reason → CountedEvent
event metric why = record { metric = metric; reason = why }

-- An event of a metric whose events do not differ.
abbrev pub plain : Counted → CountedEvent
plain metric = event metric reason.None

-- The metric of a datagram to a home server by its Code: an Accounting-Request or a Status-Server.
abbrev pub sent_metric : Option ℕ → Option Counted
sent_metric None = None
sent_metric (Some code) = if code == 4 then Some Sent else (if code == 12 then Some Probed else None)

abbrev pub sent_event : Option Counted → Option CountedEvent
sent_event None = None
sent_event (Some metric) = Some (plain metric)

-- The event as which a report is counted for a worker.
abbrev pub event_of : WorkerReport → Option CountedEvent
event_of (report.Sends to octets origin) = sent_event (sent_metric (slice_get octets.now 0))
event_of (report.SendFault to octets) = Some (plain SendFaults)
event_of report.ReceiveFault = Some (plain ReceiveFaults)
event_of (report.Dropped why from octets) = Some (event Dropped (reason.Dropped why))
event_of (report.Refused why from octets) = Some (event Refused (reason.Refused why))
event_of (report.NotHome from octets) = Some (event Unheard reason.NotHome)
event_of (report.Unheard why octets origin) = Some (event Unheard (reason.Unheard why))
event_of (report.WentDown spent) = Some (plain WentDown)
event_of (report.WentUp why) = Some (event WentUp (reason.Up why))
event_of (report.Cut count) = Some (plain Cut)
event_of (report.Marked lane from marks) = Some (plain Marked)
event_of r = None

-- The event as which a report of the front is counted for the client that it is about. A datagram that came from no
-- client is counted for none.
abbrev pub client_event_of : WorkerReport → Option CountedEvent
client_event_of (report.Received from octets) = Some (plain ClientReceived)
client_event_of (report.Accepted lane number from octets) = Some (plain ClientAccepted)
client_event_of (report.Repeated repeat from octets) = Some (event ClientRepeats (reason.Repeat repeat))
client_event_of (report.Sends to octets origin) = Some (plain ClientResponses)
client_event_of (report.Refused why from octets) = Some (event ClientRefused (reason.Refused why))
client_event_of (report.Dropped dropped.UnknownClient from octets) = None
client_event_of (report.Dropped why from octets) = Some (event ClientDropped (reason.Dropped why))
client_event_of r = None

-- The other end of what is reported.
abbrev pub peer_of : WorkerReport → Option Endpoint
peer_of (report.Received from octets) = Some from
peer_of (report.Dropped why from octets) = Some from
peer_of (report.Marked lane from marks) = Some from
peer_of (report.Accepted lane number from octets) = Some from
peer_of (report.Repeated repeat from octets) = Some from
peer_of (report.Refused why from octets) = Some from
peer_of (report.NotHome from octets) = Some from
peer_of (report.Sends to octets origin) = Some to
peer_of (report.SendFault to octets) = Some to
peer_of r = None

-- The row of a worker: the front's is the first, and the lanes' follow in order.
abbrev pub worker_place : Worker → ℕ
worker_place Front = 0
worker_place (Lane lane) = lane + 1

-- The row of the worker or lane that a report is about: the worker's, or that of the lane that the front accepted a
-- request for, took a response from, or has a marked request for.
abbrev pub row_of : Worker → WorkerReport → ℕ
row_of worker (report.Marked lane from marks) = lane + 1
row_of worker (report.Accepted lane number from octets) = lane + 1
row_of worker (report.Took lane serial number client sent) = lane + 1
row_of worker r = worker_place worker
