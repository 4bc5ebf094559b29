-- Why a spool is not there, or is not written: its number, and its text in the log. Own.
use Rattle.std.specs.Prelude.{Bool, true, false, ℕ, ℤ, pos, int_lt, unsigned_abs, ◌+◌, ◌*◌, ◌/◌, ◌%◌, ◌==◌, if◌then◌else◌, List, codes, Option, Some, None}
use Rattle.spool_writer.specs.declared.fault.SpoolFault.{SpoolFault}
use Rattle.spool_writer.specs.declared.fault.SpoolFault.TheVariants.{NoText, NoNumber, Memory, Folder, Others, Lock, Held, Read, Later, Limit, Create, Write, Sync}

-- a program does not start for the fault
abbrev pub is_refusal : SpoolFault → Bool
is_refusal NoText = false
is_refusal NoNumber = false
is_refusal Memory = false
is_refusal (Folder number) = false
is_refusal Others = true
is_refusal (Lock number) = false
is_refusal Held = true
is_refusal (Read number) = false
is_refusal Later = false
is_refusal Limit = false
is_refusal (Create number) = false
is_refusal (Write number) = false
is_refusal (Sync number) = false

-- the number of values of a system's number
abbrev pub numbers : ℕ
numbers = 4294967296

-- the number that stands for a fault: its kind, followed by the system's number in 32 bits
abbrev pub fault_number : SpoolFault → ℕ
fault_number NoText = 1 * numbers
fault_number NoNumber = 2 * numbers
fault_number Memory = 3 * numbers
fault_number (Folder number) = 4 * numbers + number
fault_number Others = 5 * numbers
fault_number (Lock number) = 6 * numbers + number
fault_number Held = 7 * numbers
fault_number (Read number) = 8 * numbers + number
fault_number Later = 9 * numbers
fault_number Limit = 10 * numbers
fault_number (Create number) = 11 * numbers + number
fault_number (Write number) = 12 * numbers + number
fault_number (Sync number) = 13 * numbers + number

-- the fault of a kind, with the system's number
abbrev pub fault_of_kind : ℕ → ℕ → Option SpoolFault
fault_of_kind kind number =
    if kind == 1 then Some NoText
    else if kind == 2 then Some NoNumber
    else if kind == 3 then Some Memory
    else if kind == 4 then Some (Folder number)
    else if kind == 5 then Some Others
    else if kind == 6 then Some (Lock number)
    else if kind == 7 then Some Held
    else if kind == 8 then Some (Read number)
    else if kind == 9 then Some Later
    else if kind == 10 then Some Limit
    else if kind == 11 then Some (Create number)
    else if kind == 12 then Some (Write number)
    else if kind == 13 then Some (Sync number)
    else None

-- the fault that a number stands for
abbrev pub fault_of_number : ℕ → Option SpoolFault
fault_of_number number = fault_of_kind (number / numbers) (number % numbers)

-- what was not possible
abbrev pub fault_step : SpoolFault → List ℕ
fault_step NoText = codes "a variable is no text"
fault_step NoNumber = codes "RAD_PROXY_SPOOL_LIMIT is no number"
fault_step Memory = codes "no memory"
fault_step (Folder number) = codes "can't make the folder"
fault_step Others = codes "others than its owner may use the folder"
fault_step (Lock number) = codes "can't lock"
fault_step Held = codes "another process holds the folder"
fault_step (Read number) = codes "can't read"
fault_step Later = codes "a later program wrote it"
fault_step Limit = codes "the limit is reached"
fault_step (Create number) = codes "can't make a file"
fault_step (Write number) = codes "can't write"
fault_step (Sync number) = codes "can't sync"

-- the system's number of a fault, or 0 if it has none
abbrev pub number_of_system : SpoolFault → ℕ
number_of_system NoText = 0
number_of_system NoNumber = 0
number_of_system Memory = 0
number_of_system (Folder number) = number
number_of_system Others = 0
number_of_system (Lock number) = number
number_of_system Held = 0
number_of_system (Read number) = number
number_of_system Later = 0
number_of_system Limit = 0
number_of_system (Create number) = number
number_of_system (Write number) = number
number_of_system (Sync number) = number

-- The text of a fault without a system's number. Behind another one stands the system's text, which is its own.
abbrev pub fault_text : SpoolFault → Option (List ℕ)
fault_text fault = if number_of_system fault == 0 then Some (fault_step fault) else None

-- the number of a system's code, or 0 if there is none
abbrev pub number_of_code : Option ℤ → ℕ
number_of_code None = 0
number_of_code (Some code) = if int_lt code (pos 0) then 0 else unsigned_abs code
