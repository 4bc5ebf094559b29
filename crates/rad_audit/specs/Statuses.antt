-- How the program ends (own).
use Rattle.std.specs.Prelude.{◌≡◌, ℕ, ◌-◌, Bool, true, false, not, ◌&&◌, ◌||◌, ◌==◌, nat_le, max, if◌then◌else◌, Option, Some, None, unwrap_or}
use Rattle.ledger_rules.specs.declared.tally.Verdict.{Verdict}
use Rattle.ledger_rules.specs.declared.tally.Verdict.TheVariants.{Open, Missing, Unaccounted, Contradicted}
use Rattle.ledger_rules.specs.declared.account.Fates.{Fates}
use Rattle.rad_audit.specs.declared.lanes.Lane.{Lane}
use Rattle.rad_audit.specs.declared.faults.Fault.{Fault}
use Rattle.rad_audit.specs.declared.faults.Fault.TheVariants.{Usage, File, Configuration, Memory, Output}
use Rattle.rad_audit.specs.declared.printing.Asked.{Asked}
use Rattle.rad_audit.specs.declared.printing.Finding.{Finding}
use Rattle.rad_audit.specs.declared.printing.Finding.TheVariants as finding
use Rattle.rad_audit.specs.declared.printing.Findings.{Findings}
use Rattle.rad_audit.specs.declared.printing.LaneCounts.{LaneCounts}

-- The exit status of each fault.
abbrev pub status_of : Fault → ℕ
status_of Usage = 1
status_of (Configuration fault) = 2
status_of (File path) = 4
status_of Memory = 4
status_of Output = 4

-- The exit status of an audit that came to its end, by what was found: the first of these.
abbrev pub status_at : Findings → ℕ
status_at f =
    if f.wrong then 5 else (if f.contradicted then 9 else (if f.file then 8 else (if f.gap then 3
    else (if f.part then 7 else (if f.nothing || f.run then 10 else (if f.unended then 6 else 0))))))

-- A status of such an audit.
abbrev pub IsStatus : ℕ → Type 0
IsStatus status = (found : Findings) × (status ≡ status_at found)

-- Whether a response or a request is missing.
abbrev pub is_missing : Verdict → Bool
is_missing (Missing gap) = true
is_missing Unaccounted = true
is_missing _ = false

abbrev pub is_open : Verdict → Bool
is_open Open = true
is_open _ = false

abbrev pub is_contradicted : Verdict → Bool
is_contradicted Contradicted = true
is_contradicted _ = false

-- Whether a lane is only a part: its run begins before it, or has no sum, or ends without its counts, or some of its lines were not
-- judged.
abbrev pub is_partial : LaneCounts → Bool
is_partial counts = counts.late || (counts.bare || (counts.uncounted || not (counts.not_judged == 0)))

-- Whether it is a part that nobody asked for.
abbrev pub is_unasked : Asked → LaneCounts → Bool
is_unasked asked counts =
    (counts.late && not (asked.from || asked.partial)) || ((counts.bare || (counts.uncounted || not (counts.not_judged == 0))) && not asked.partial)

-- Whether lines that are left out may be all that is missing of a lane: responses, or if none is missing requests that were left.
abbrev pub missing_of : Lane → ℕ
missing_of lane = max lane.tally.next (unwrap_or lane.tally.end 0) - lane.tally.first - lane.tally.entries

abbrev pub is_left_covered : Lane → Option Fates → Bool
is_left_covered lane None = false
is_left_covered lane (Some told) = not (lane.hidden.left == 0) && nat_le (told.left - lane.account.left) lane.hidden.left

abbrev pub is_covered : Lane → Bool
is_covered lane = if missing_of lane == 0 then is_left_covered lane lane.account.told else nat_le (missing_of lane) lane.hidden.entries

-- What is found with one lane more.
abbrev pub found_in : Asked → LaneCounts → Findings → Findings
found_in asked counts f =
    record f {
      contradicted = f.contradicted || is_contradicted counts.verdict;
      gap = f.gap || (is_missing counts.verdict && not (asked.partial && counts.covered));
      part = f.part || is_unasked asked counts;
      nothing = false;
      unended = f.unended || is_open counts.verdict;
    }

-- What is found with one finding more. What is torn, or back in time, is no fault. A gap is that of its lane.
abbrev pub found_with : Asked → Finding → Findings → Findings
found_with asked (finding.Wrong place reason) f = record f { wrong = true }
found_with asked (finding.Torn place) f = f
found_with asked (finding.Gap place name gap) f = f
found_with asked (finding.Files place run files) f = record f { file = true }
found_with asked (finding.Second place run) f = f
found_with asked (finding.Lane counts) f = found_in asked counts f
found_with asked (finding.Part counts) f = f
found_with asked (finding.Fates name fates) f = f
found_with asked (finding.Ranges name) f = f
found_with asked (finding.Back name steps) f = f
found_with asked (finding.Resumed name count) f = f
found_with asked (finding.Hidden run count) f = record f { part = f.part || not asked.partial }
found_with asked (finding.Before run file) f = record f { run = f.run || asked.all }
found_with asked (finding.Untied run) f = record f { run = f.run || asked.all }
found_with asked (finding.Sum word) f = record f { wrong = true }
