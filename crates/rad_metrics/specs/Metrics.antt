-- The values of the metrics that are read, and the lines of those of the ledger and of the spool (own).
use Rattle.std.specs.Prelude.{ℕ, ◌+◌, ◌-◌, ◌%◌, ◌^◌, ◌&&◌, nat_lt, if◌then◌else◌, List, ◌++◌, codes, Option, Some, None}
use Rattle.rad_metrics.specs.Families.{head_text}
use Rattle.rad_metrics.specs.Samples.{sample_text}
use Rattle.rad_metrics.specs.Values.{value_of_bool}
use Rattle.rad_metrics.specs.declared.family.Family.{Family}
use Rattle.rad_metrics.specs.declared.value.Value.{Value}
use Rattle.rad_metrics.specs.declared.value.Value.TheVariants.{Count, Milliseconds}
use Rattle.rad_metrics.specs.declared.home_metric.HomeMetric.{HomeMetric}
use Rattle.rad_metrics.specs.declared.home_metric.HomeMetric.TheVariants as home
use Rattle.rad_metrics.specs.declared.socket_numbers.SocketMetric.{SocketMetric}
use Rattle.rad_metrics.specs.declared.socket_numbers.SocketMetric.TheVariants as socket
use Rattle.rad_metrics.specs.declared.home_metric.Reading.{Reading}
use Rattle.rad_metrics.specs.declared.socket_numbers.SocketReading.{SocketReading}
use Rattle.ledger_state.specs.declared.state.LedgerReading.{LedgerReading}
use Rattle.rad_metrics.specs.declared.ledger_metrics.LedgerMetric.{LedgerMetric}
use Rattle.rad_metrics.specs.declared.ledger_metrics.LedgerMetric.TheVariants as ledger
use Rattle.rad_metrics.specs.declared.spool_metrics.SpoolMetric.{SpoolMetric}
use Rattle.rad_metrics.specs.declared.spool_metrics.SpoolMetric.TheVariants as spool
use Rattle.rad_metrics.specs.declared.spool_metrics.SpoolNumbers.{SpoolNumbers}
use Rattle.rad_metrics.specs.declared.program_metrics.ProgramMetric.{ProgramMetric}
use Rattle.rad_metrics.specs.declared.program_metrics.ProgramMetric.TheVariants as program
use Rattle.rad_metrics.specs.declared.program_metrics.ProgramReading.{ProgramReading}

-- How long before a moment something was; 0 if there is nothing.
abbrev pub age_at : Option ℕ → ℕ → ℕ
age_at None moment = 0
age_at (Some first) moment = moment - first

-- The sendings that were not the first of their request: all sendings, less the accepted requests that are not queued.
abbrev pub resent : Reading → ℕ
resent reading = reading.sent - (reading.standing.counts.accepted - reading.standing.counts.queued)

abbrev pub home_value : HomeMetric → Reading → Value
home_value home.BookLimit reading = Count reading.limits.book
home_value home.QueueLimit reading = Count reading.limits.queue
home_value home.WindowLimit reading = Count reading.limits.window
home_value home.RingLimit reading = Count reading.limits.ring
home_value home.Span reading = Milliseconds reading.limits.span
home_value home.Up reading = value_of_bool reading.standing.counts.up
home_value home.Since reading = Milliseconds reading.since
home_value home.Down reading = Milliseconds reading.down
home_value home.Told reading = Milliseconds reading.told
home_value home.Draining reading = value_of_bool reading.standing.counts.draining
home_value home.Accepted reading = Count reading.standing.counts.accepted
home_value home.Answered reading = Count reading.standing.counts.answered
home_value home.Queued reading = Count reading.standing.counts.queued
home_value home.Outstanding reading = Count reading.standing.counts.outstanding
home_value home.Held reading = Count (reading.standing.counts.accepted - reading.standing.counts.opening)
home_value home.Resent reading = Count (resent reading)
home_value home.OldestQueued reading = Milliseconds (age_at reading.standing.first_queued reading.moment)
home_value home.OldestOutstanding reading = Milliseconds reading.oldest_outstanding
home_value home.OldestHeld reading = Milliseconds (age_at reading.standing.first_held reading.moment)
home_value home.LastAnswer reading = Milliseconds reading.last_answer

-- How many datagrams were dropped, if so many were before and the system, which counts up to 32 bits, shows this number: it
-- went on from there by fewer than 2 ^ 31, or else nothing is known.
abbrev pub counted_on : ℕ → ℕ → ℕ
counted_on before more = if nat_lt more (2 ^ 31) && nat_lt (before + more) (2 ^ 64) then before + more else before

abbrev pub dropped_so_far : ℕ → ℕ → ℕ
dropped_so_far before shown = counted_on before ((shown + 2 ^ 32 - before % 2 ^ 32) % 2 ^ 32)

abbrev pub socket_value : SocketMetric → SocketReading → Value
socket_value socket.Buffer reading = Count reading.buffer
socket_value socket.Dropped reading = Count reading.dropped

abbrev pub program_value : ProgramMetric → ProgramReading → Value
program_value program.BuildInfo reading = Count 1
program_value program.Start reading = Milliseconds reading.started
program_value program.Report reading = Milliseconds reading.asked
program_value program.Strangers reading = Count reading.strangers
program_value program.ProcessStart reading = Milliseconds reading.started
program_value program.ProcessResident reading = Count reading.process.resident
program_value program.ProcessDescriptors reading = Count reading.process.descriptors
program_value program.ProcessCpu reading = Milliseconds reading.process.cpu

abbrev pub ledger_value : LedgerMetric → LedgerReading → Value
ledger_value ledger.Written reading = Count reading.written
ledger_value ledger.Waiting reading = Count reading.waiting
ledger_value ledger.Dropped reading = Count reading.dropped
ledger_value ledger.Lost reading = Count reading.lost
ledger_value ledger.Age reading = Milliseconds reading.age
ledger_value ledger.Unsynced reading = Milliseconds reading.unsynced

-- The lines of a metric of the ledger, or nothing if there is no ledger.
abbrev pub ledger_text : Family → LedgerMetric → Option LedgerReading → List ℕ
ledger_text family metric None = codes ""
ledger_text family metric (Some reading) = head_text family ++ sample_text family.name.now (codes "") (ledger_value metric reading)

abbrev pub spool_value : SpoolMetric → SpoolNumbers → Value
spool_value spool.Open numbers = Count numbers.open
spool_value spool.Unsynced numbers = Count numbers.unsynced
spool_value spool.Behind numbers = Milliseconds numbers.behind
spool_value spool.Age numbers = Milliseconds numbers.age
spool_value spool.Octets numbers = Count numbers.octets
spool_value spool.Lost numbers = Count numbers.lost
spool_value spool.Written numbers = Count numbers.written
spool_value spool.Faults numbers = Count numbers.faults
spool_value spool.Failing numbers = value_of_bool numbers.is_failing
spool_value spool.Dropped numbers = Count numbers.dropped
spool_value spool.Held numbers = Count numbers.held

-- The lines of a metric of the spool, or nothing if there is no spool.
abbrev pub spool_text : Family → SpoolMetric → Option SpoolNumbers → List ℕ
spool_text family metric None = codes ""
spool_text family metric (Some numbers) = head_text family ++ sample_text family.name.now (codes "") (spool_value metric numbers)
