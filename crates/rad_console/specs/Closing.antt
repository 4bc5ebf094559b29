-- What is left of all lanes at the end (own).
use Rattle.std.specs.Prelude.{◌≡◌, ℕ, List, length, All, Option, MatchOption, ⊤}
use Rattle.locked_lanes.specs.declared.inlet.Inlet.{Inlet}
use Rattle.locked_lanes.specs.declared.report.LaneEnd.{LaneEnd}
use Rattle.locked_lanes.specs.declared.report.Report.{Report}
use Rattle.locked_lanes.specs.declared.report.Rest.{Rest}
use Rattle.locked_lanes.specs.declared.report.Rest.TheVariants.{Known, Unknown}
use Rattle.rad_desk.specs.Ending.{IsReportOf}
use Rattle.rad_desk.specs.Leaving.{Left, left_with, left_of_all}
use Rattle.rad_console.specs.declared.lines.EndLine.{EndLine}
use Rattle.rad_console.specs.Totals.{count_in_all}

abbrev pub outstanding_at : LaneEnd → ℕ
outstanding_at end = end.counts.outstanding

-- It is known which responses were not taken.
abbrev pub IsKnown : Rest → Type 0
IsKnown (Known rest) = ⊤
IsKnown Unknown = ⊥

abbrev pub known_count : Rest → ℕ
known_count (Known rest) = length rest
known_count Unknown = 0

abbrev pub IsKnownAt : LaneEnd → Type 0
IsKnownAt end = IsKnown end.rest

abbrev pub known_at : LaneEnd → ℕ
known_at end = known_count end.rest

-- This number of responses was not taken, if that is known of each lane; otherwise there is no number.
abbrev pub CountsUntaken : List LaneEnd → Option ℕ → Type 0
CountsUntaken ends untaken =
    MatchOption untaken (¬ All IsKnownAt ends) (λ n. All IsKnownAt ends × (n ≡ count_in_all known_at ends))

-- The totals of a report: the requests never sent, those outstanding, and the responses that nobody took.
pub record Tells (report : Report) (end : EndLine) : Type 0 where
  pub queued : end.queued ≡ length report.queued.items
  pub outstanding : end.outstanding ≡ count_in_all outstanding_at report.ends
  pub untaken : CountsUntaken report.ends end.untaken

-- The totals of the report of `lanes` lanes, with these inlets.
pub record Closes (lanes : ℕ) (inlets : List Inlet) (end : EndLine) : Type 0 where
  pub report : Report
  pub report_of : IsReportOf lanes inlets report
  pub told : Tells report end

-- A ledger that was told `before` was told of each request that is left by the report of `lanes` lanes, with these inlets.
pub record LeavesTold (lanes : ℕ) (inlets : List Inlet) (before after : Option (List Left)) : Type 0 where
  pub report : Report
  pub report_of : IsReportOf lanes inlets report
  pub told : after ≡ left_with before (left_of_all report.ends report.queued.items)

-- What is left of `lanes` lanes, with some inlets.
abbrev pub IsEndOf : ℕ → EndLine → Type 0
IsEndOf lanes end = (inlets : List Inlet) × Closes lanes inlets end
