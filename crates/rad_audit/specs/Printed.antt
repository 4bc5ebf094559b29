-- The lines that the auditor prints (own), without their line feeds.
use Rattle.std.specs.Prelude.{ℕ, ◌^◌, ◌-◌, ◌==◌, false, not, if◌then◌else◌, List, [], ◌++◌, codes, string_bytes}
use Rattle.std.specs.Fmt.{decimal, digits, format_spec, padded_integral}
use Rattle.ledger_rules.specs.Printed.{gap_text, reason_text, verdict_text}
use Rattle.ledger_rules.specs.declared.reason.Reason.TheVariants.{WrongSum}
use Rattle.rad_audit.specs.Shown.{word_text}
use Rattle.rad_audit.specs.declared.printing.LinePlace.{LinePlace}
use Rattle.rad_audit.specs.declared.printing.LaneCounts.{LaneCounts}
use Rattle.rad_audit.specs.declared.printing.LaneName.{LaneName}
use Rattle.rad_audit.specs.declared.printing.Finding.{Finding}
use Rattle.rad_audit.specs.declared.printing.Finding.TheVariants as finding

abbrev pub place_text : LinePlace → List ℕ
place_text place = word_text place.file.now ++ codes ":" ++ decimal place.line

-- The name of a run: sixteen hexadecimal digits, zeros before the others.
abbrev pub run_text : ℕ → List ℕ
run_text run = padded_integral (format_spec 32 0 4 16 (2 ^ 64 - 1)) false [] (digits 16 false run)

abbrev pub name_text : LaneName → List ℕ
name_text name = codes "run " ++ run_text name.run ++ codes " lane " ++ decimal name.number ++ codes " " ++ word_text name.home.now

-- What a lane has, behind its name.
abbrev pub counts_text : LaneCounts → List ℕ
counts_text counts =
    (codes "from " ++ decimal counts.first ++ codes " entries " ++ decimal counts.entries ++ codes " ")
    ++ (codes "not judged " ++ decimal counts.not_judged ++ codes " " ++ verdict_text counts.verdict)

-- Why a lane is only a part.
abbrev pub reasons_text : LaneCounts → List ℕ
reasons_text counts =
    codes "part:"
    ++ ((if counts.late then codes " late" else []) ++ ((if counts.bare then codes " no-sum" else [])
    ++ ((if counts.uncounted then codes " no-counts" else []) ++ (if not (counts.not_judged == 0) then codes " not-judged" else []))))

abbrev pub steps_text : ℕ → List ℕ
steps_text steps = codes "steps back in time " ++ decimal steps

abbrev pub line_of : Finding → List ℕ
line_of (finding.Wrong place reason) = place_text place ++ codes ": " ++ reason_text reason
line_of (finding.Torn place) = place_text place ++ codes ": torn"
line_of (finding.Gap place name gap) = place_text place ++ codes ": " ++ name_text name ++ codes " " ++ gap_text gap
line_of (finding.Files place run files) =
    place_text place ++ codes ": run " ++ run_text run ++ codes " files " ++ decimal files.first ++ codes " to " ++ decimal files.last ++ codes " missing"
line_of (finding.Second place run) = place_text place ++ codes ": run " ++ run_text run ++ codes " behind another run"
line_of (finding.Lane counts) = name_text counts.name ++ codes " " ++ counts_text counts
line_of (finding.Part counts) = name_text counts.name ++ codes " " ++ reasons_text counts
line_of (finding.Fates name fates) =
    name_text name ++ codes " accepted " ++ decimal fates.accepted ++ codes " answered " ++ decimal fates.answered ++ codes " left " ++ decimal fates.left
line_of (finding.Ranges name) = name_text name ++ codes " more than 4096 ranges"
line_of (finding.Back name steps) = name_text name ++ codes " " ++ steps_text steps
line_of (finding.Resumed name count) = name_text name ++ codes " resumed " ++ decimal count
line_of (finding.Hidden run count) = codes "run " ++ run_text run ++ codes " hidden " ++ decimal count
line_of (finding.Before run file) = codes "run " ++ run_text run ++ codes " before " ++ word_text (string_bytes file.now.name.0) ++ codes " missing"
line_of (finding.Untied run) = codes "run " ++ run_text run ++ codes " untied"
line_of (finding.Sum word) = word_text word.now ++ codes ": " ++ reason_text WrongSum
