-- The log lines of the ledger, without their line feeds (own).
use Rattle.std.specs.Prelude.{ℕ, ◌^◌, ◌-◌, false, List, [], ◌++◌, codes, slice_index, Option, Some, None}
use Rattle.std.specs.Fmt.{decimal, digits, format_spec, padded_integral}
use Rattle.ledger_state.specs.Faults.{fault_text}
use Rattle.ledger_state.specs.declared.file_sums.FileSum.{FileSum}
use Rattle.ledger_state.specs.declared.log_lines.LedgerLine.{LedgerLine}
use Rattle.ledger_state.specs.declared.log_lines.LedgerLine.TheVariants as line

-- The line of a fault whose text is known.
abbrev pub fault_line : Option (List ℕ) → Option (List ℕ)
fault_line None = None
fault_line (Some text) = Some (codes "event=ledger-fault reason=\"" ++ text ++ codes "\"")

-- Eight octets, as sixteen hexadecimal digits.
abbrev pub word_text : ℕ → List ℕ
word_text word = padded_integral (format_spec 32 0 4 16 (2 ^ 64 - 1)) false [] (digits 16 false word)

-- A sum of 32 octets, which is kept as four numbers of eight octets.
abbrev pub sum_text : FileSum → List ℕ
sum_text its =
    codes "run=" ++ (word_text its.run ++ (codes " file=" ++ (decimal its.file ++ (codes " entries=" ++ (decimal its.entries
    ++ (codes " sum=" ++ (word_text (slice_index its.sum 0) ++ (word_text (slice_index its.sum 1)
    ++ (word_text (slice_index its.sum 2) ++ word_text (slice_index its.sum 3))))))))))

abbrev pub ledger_line : LedgerLine → Option (List ℕ)
ledger_line (line.Fault fault) = fault_line (fault_text fault)
ledger_line line.Back = Some (codes "event=ledger-back")
ledger_line (line.File its) = Some (codes "event=ledger-file " ++ sum_text its)
ledger_line (line.Untied file) = Some (codes "event=ledger-untied file=\"" ++ file.now ++ codes "\"")
ledger_line (line.Dropped count) = Some (codes "event=ledger-dropped count=" ++ decimal count)
ledger_line (line.Lost lane count from to) =
    Some (codes "event=ledger-lost lane=" ++ decimal lane ++ codes " count=" ++ decimal count ++ codes " from=" ++ decimal from ++ codes " to=" ++ decimal to)
ledger_line (line.Left count) = Some (codes "event=ledger-left count=" ++ decimal count)
ledger_line (line.Both count left) = Some (codes "event=ledger-left count=" ++ decimal count ++ codes " left=" ++ decimal left)
ledger_line (line.Missing lane from to) = Some (codes "event=ledger-missing lane=" ++ decimal lane ++ codes " from=" ++ decimal from ++ codes " to=" ++ decimal to)
