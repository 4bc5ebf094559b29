-- The lines about the whole proxy, without their line feeds (own).
use Rattle.std.specs.Prelude.{ℕ, List, ◌++◌, length, codes, Option, Some, None}
use Rattle.std.specs.Fmt.{decimal}
use Rattle.rad_realms.specs.Configuration.{Configuration}
use Rattle.rad_realms.specs.Printed.{endpoint_text}
use Rattle.rad_console.specs.declared.lines.CountLine.{CountLine}
use Rattle.rad_console.specs.declared.lines.EndLine.{EndLine}
use Rattle.rad_console.specs.declared.lines.ListeningLine.{ListeningLine}

-- How many responses were not taken, if that is known.
abbrev pub untaken_text : Option ℕ → List ℕ
untaken_text (Some count) = codes "untaken " ++ decimal count
untaken_text None = codes "untaken unknown"

abbrev pub end_line : EndLine → List ℕ
end_line line =
    (codes "end: queued " ++ decimal line.queued ++ codes " outstanding " ++ decimal line.outstanding ++ codes " ")
    ++ untaken_text line.untaken

-- How many clients, home servers and realms a configuration has.
abbrev pub counts_of : Configuration → CountLine
counts_of config = record { clients = length config.clients; homes = length config.homes; realms = length config.realms }

abbrev pub count_line : CountLine → List ℕ
count_line line =
    codes "clients " ++ decimal line.clients ++ codes " homes " ++ decimal line.homes
    ++ codes " realms " ++ decimal line.realms

abbrev pub listening_line : ListeningLine → List ℕ
listening_line line = codes "listening " ++ endpoint_text line.endpoint
