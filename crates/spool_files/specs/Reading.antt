-- What is wrong with a segment. Own.
use Rattle.std.specs.Prelude.{ℕ, List, codes, Option, Some, None, ◌==◌, ◌&&◌, nat_lt, if◌then◌else◌}
use Rattle.spool_files.specs.declared.entry.Head.{Head}
use Rattle.spool_files.specs.declared.entry.Head.TheVariants as heads
use Rattle.spool_files.specs.declared.reading.FaultKind.{FaultKind}
use Rattle.spool_files.specs.declared.reading.FaultKind.TheVariants.{WrongSum, NotEntries, CutShort, NoBeginning, LaterVersion}

-- the version of the format
abbrev pub version : ℕ
version = 1

-- what is wrong with the first entry of the segment of a number
abbrev pub beginning_fault : ℕ → Head → Option FaultKind
beginning_fault number (heads.Begun b) = if nat_lt version b.version then Some LaterVersion else (if b.version == version && b.number == number then None else Some NoBeginning)
beginning_fault number (heads.Came c) = Some NoBeginning
beginning_fault number (heads.Answered a) = Some NoBeginning
beginning_fault number (heads.GivenUp g) = Some NoBeginning

-- the name of a fault, as a log has it
abbrev pub fault_name : FaultKind → List ℕ
fault_name WrongSum = codes "wrong sum"
fault_name NotEntries = codes "not entries"
fault_name CutShort = codes "cut short"
fault_name NoBeginning = codes "no beginning"
fault_name LaterVersion = codes "later version"
