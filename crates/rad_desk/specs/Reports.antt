-- The note of what a worker reports, and what it reports of a request's realm (own).
use Rattle.std.specs.Prelude.{ℕ, List, Option, Some, None}
use Rattle.rad_desk.specs.declared.gate.Note.{Note}
use Rattle.rad_desk.specs.declared.gate.Note.TheVariants as note
use Rattle.rad_desk.specs.declared.gate.WorkerReport.{WorkerReport}
use Rattle.rad_desk.specs.declared.gate.WorkerReport.TheVariants as report

-- The note of a report: its event, without the datagram and the peer. A report of anything else has none.
abbrev pub note_of : WorkerReport → Option Note
note_of report.ReceiveFault = Some note.ReceiveFault
note_of (report.SendFault to octets) = Some note.SendFault
note_of (report.Dropped reason from octets) = Some (note.Dropped reason)
note_of (report.Refused reason from octets) = Some (note.Refused reason)
note_of (report.Took lane serial number client sent) = Some (note.Took lane serial)
note_of (report.NotHome from octets) = Some note.NotHome
note_of (report.Unheard fault octets origin) = Some (note.Unheard fault)
note_of (report.WentDown spent) = Some note.WentDown
note_of (report.WentUp reason) = Some note.WentUp
note_of (report.Cut count) = Some (note.Cut count)
note_of r = None

-- What is reported of the realm of a request for a lane, given the realm's rank among those of the table that lead to
-- the lane. Of a request without a realm nothing is reported.
abbrev pub realm_report : ℕ → Option (List ℕ) → Option ℕ → Option WorkerReport
realm_report lane None rank = None
realm_report lane (Some realm) None = Some (report.RequestedUnlisted lane)
realm_report lane (Some realm) (Some rank) = Some (report.Requested lane rank)
