-- Why the file of the counters is not replaced, as its log line says (own).
use Rattle.std.specs.Prelude.{ℕ, List, codes}
use Rattle.rad_telemetry.specs.declared.counter_file.FileFault.{FileFault}
use Rattle.rad_telemetry.specs.declared.counter_file.FileFault.TheVariants.{NotRegular, NotCounters, NotWritten, Late, NoText}

abbrev pub fault_words : FileFault → List ℕ
fault_words NotRegular = codes "no regular file"
fault_words NotCounters = codes "no file of counters"
fault_words NotWritten = codes "not written"
fault_words Late = codes "takes longer than a second"
fault_words NoText = codes "RAD_PROXY_COUNTERS is no text"
