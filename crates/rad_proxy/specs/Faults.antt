-- How the program ends at a fault (own).
use Rattle.std.specs.Prelude.{ℕ}
use Rattle.rad_proxy.specs.declared.faults.Fault.{Fault}
use Rattle.rad_proxy.specs.declared.faults.Fault.TheVariants.{Usage, Input, Clock, File, Configuration, Listen, LaneSocket, Threads, Memory, Events, Spool, Output}
use Rattle.rad_replay.specs.declared.faults.ReplayFault.{ReplayFault}
use Rattle.rad_replay.specs.declared.faults.ReplayFault.TheVariants as replaying
use Rattle.rad_server.specs.declared.faults.ServeFault.{ServeFault}
use Rattle.rad_server.specs.declared.faults.ServeFault.TheVariants as serving

-- The exit status of each fault.
abbrev pub status_of : Fault → ℕ
status_of Usage = 1
status_of (Configuration fault) = 2
status_of Input = 4
status_of Clock = 4
status_of (File path) = 4
status_of (Listen endpoint) = 4
status_of (LaneSocket lane) = 4
status_of Threads = 4
status_of Memory = 4
status_of (Events line) = 4
status_of Spool = 5
status_of Output = 4

-- A fault that ends a replay ends the program.
abbrev pub fault_of_replay : ReplayFault → Fault
fault_of_replay replaying.Input = Input
fault_of_replay (replaying.Configuration fault) = Configuration fault
fault_of_replay replaying.Memory = Memory
fault_of_replay (replaying.Events line) = Events line
fault_of_replay replaying.Output = Output

-- A fault that ends a service ends the program. A worker that ended by itself gives the same fault as one that can't be
-- started.
abbrev pub fault_of_serving : ServeFault → Fault
fault_of_serving (serving.Listen endpoint) = Listen endpoint
fault_of_serving (serving.LaneSocket lane) = LaneSocket lane
fault_of_serving serving.Threads = Threads
fault_of_serving (serving.Ended worker) = Threads
fault_of_serving serving.Input = Input
fault_of_serving (serving.InputWait reason) = Input
fault_of_serving serving.Clock = Clock
fault_of_serving serving.Output = Output
fault_of_serving serving.Memory = Memory
