-- The names of a ledger's files.
use Rattle.std.specs.Prelude.{ℕ, false, List, ◌++◌, codes}
use Rattle.std.specs.Fmt.{decimal, digits}
use Rattle.ledger_files.specs.Moments.{date_text, with_zeros}
use Rattle.ledger_files.specs.declared.utc.Date.{Date}

-- The folder, a slash, the date, a dash, sixteen hexadecimal digits for the run, a dash, six digits or more for the file, `.jsonl`.
abbrev pub path_text : List ℕ → Date → ℕ → ℕ → List ℕ
path_text folder date run number =
    folder ++ (codes "/" ++ (date_text date ++ (codes "-" ++ (with_zeros 16 (digits 16 false run)
    ++ (codes "-" ++ (with_zeros 6 (decimal number) ++ codes ".jsonl"))))))
