-- Why the ledger is not written: its number, and its text in the log (own).
use Rattle.std.specs.Prelude.{ℕ, ℤ, pos, int_lt, unsigned_abs, ◌+◌, ◌*◌, ◌/◌, ◌%◌, ◌==◌, if◌then◌else◌, List, codes, Option, Some, None}
use Rattle.ledger_state.specs.declared.fault.LedgerFault.{LedgerFault}
use Rattle.ledger_state.specs.declared.fault.LedgerFault.TheVariants.{NoText, Memory, Gone, Create, Write, Sync, Parted}

-- The number of values of a system's number.
abbrev pub numbers : ℕ
numbers = 4294967296

-- The number that stands for a fault: its kind, followed by the system's number in 32 bits.
abbrev pub fault_number : LedgerFault → ℕ
fault_number NoText = 1 * numbers
fault_number Memory = 2 * numbers
fault_number Gone = 3 * numbers
fault_number (Create number) = 4 * numbers + number
fault_number (Write number) = 5 * numbers + number
fault_number (Sync number) = 6 * numbers + number
fault_number Parted = 7 * numbers

-- The fault of a kind, with the system's number.
abbrev pub fault_of_kind : ℕ → ℕ → Option LedgerFault
fault_of_kind kind number =
    if kind == 1 then Some NoText
    else if kind == 2 then Some Memory
    else if kind == 3 then Some Gone
    else if kind == 4 then Some (Create number)
    else if kind == 5 then Some (Write number)
    else if kind == 6 then Some (Sync number)
    else if kind == 7 then Some Parted
    else None

-- The fault that a number stands for.
abbrev pub fault_of_number : ℕ → Option LedgerFault
fault_of_number number = fault_of_kind (number / numbers) (number % numbers)

-- What was not possible.
abbrev pub fault_step : LedgerFault → List ℕ
fault_step NoText = codes "RAD_PROXY_LEDGER is no text"
fault_step Memory = codes "no memory"
fault_step Gone = codes "the file is no longer there"
fault_step (Create number) = codes "can't make a file"
fault_step (Write number) = codes "can't write"
fault_step (Sync number) = codes "can't sync"
fault_step Parted = codes "an entry is without its packets"

-- The system's number of a fault, or 0 if it has none.
abbrev pub number_of_system : LedgerFault → ℕ
number_of_system (Create number) = number
number_of_system (Write number) = number
number_of_system (Sync number) = number
number_of_system fault = 0

-- The text of a fault without a system's number. Behind another one stands the system's text, which is its own.
abbrev pub fault_text : LedgerFault → Option (List ℕ)
fault_text fault = if number_of_system fault == 0 then Some (fault_step fault) else None

-- The number of a system's code, or 0 if there is none.
abbrev pub number_of_code : Option ℤ → ℕ
number_of_code None = 0
number_of_code (Some code) = if int_lt code (pos 0) then 0 else unsigned_abs code
