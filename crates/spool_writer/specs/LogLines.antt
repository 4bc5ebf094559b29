-- The log lines of a spool, without their line feeds. Own.
use Rattle.std.specs.Prelude.{List, ℕ, ◌++◌, codes, Option, Some, None}
use Rattle.std.specs.Fmt.{decimal}
use Rattle.spool_writer.specs.Clocks.{jump_text}
use Rattle.spool_writer.specs.Faults.{fault_text}
use Rattle.spool_writer.specs.declared.log_lines.SpoolLine.{SpoolLine}
use Rattle.spool_writer.specs.declared.log_lines.SpoolLine.TheVariants as line
use Rattle.spool_writer.specs.declared.log_lines.WaitingLine.{WaitingLine}

-- the line of a fault whose text is known
abbrev pub fault_line : Option (List ℕ) → Option (List ℕ)
fault_line None = None
fault_line (Some text) = Some (codes "event=spool-fault reason=\"" ++ text ++ codes "\"")

-- those of a damaged segment, and of a request that no longer passes the checks, are not stated
abbrev pub spool_line : SpoolLine → Option (List ℕ)
spool_line (line.Fault fault) = fault_line (fault_text fault)
spool_line line.Back = Some (codes "event=spool-back")
spool_line (line.Lost count) = Some (codes "event=spool-lost count=" ++ decimal count)
spool_line (line.Left count) = Some (codes "event=spool-left count=" ++ decimal count)
spool_line (line.Damage fault) = None
spool_line (line.Unfit request) = None
spool_line (line.Dropped count) = Some (codes "event=spool-dropped count=" ++ decimal count)
spool_line (line.Clock jump) = Some (codes "event=spool-clock jump=" ++ jump_text jump)

-- so many requests of a home server wait, and the oldest came in so many seconds ago
abbrev pub waiting_line : WaitingLine → List ℕ
waiting_line line = codes "event=spool-waiting home=" ++ line.home.now ++ codes " count=" ++ decimal line.count ++ codes " oldest=" ++ decimal line.seconds
