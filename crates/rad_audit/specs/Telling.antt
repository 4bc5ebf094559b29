-- What is printed of the lanes of the runs at the end (own).
use Rattle.std.specs.Prelude.{◌≡◌, ◌==◌, not, ◌||◌, ℕ, List, [], ◌∷◌, ◌++◌, Option, Some, None, if◌then◌else◌, option_map, MatchOption, IsTrue, string_bytes}
use Rattle.std.specs.Io.KnownBytes.{Appends}
use Rattle.std.specs.Ordering.{nat_cmp}
use Rattle.std.specs.BTreeMap.{get}
use Rattle.ledger_rules.specs.Accounting.{JudgesLane}
use Rattle.ledger_rules.specs.Counting.{Counts}
use Rattle.ledger_rules.specs.Numbers.{Keeps}
use Rattle.rad_audit.specs.Printed.{line_of}
use Rattle.rad_audit.specs.Statuses.{is_partial}
use Rattle.rad_audit.specs.declared.lanes.Lane.{Lane}
use Rattle.rad_audit.specs.declared.printing.Finding.{Finding}
use Rattle.rad_audit.specs.declared.printing.Finding.TheVariants as finding
use Rattle.rad_audit.specs.declared.printing.LaneCounts.{LaneCounts}
use Rattle.rad_audit.specs.declared.runs.Run.{Run}
use Rattle.rad_audit.specs.declared.runs.Runs.{Runs}

-- A finding, as it is printed.
abbrev pub printed : Finding → List ℕ
printed finding = line_of finding ++ 10 ∷ []

abbrev pub printed_if : Option Finding → List ℕ
printed_if None = []
printed_if (Some finding) = printed finding

-- What a lane of a run has, with its name and its verdict, by the serials and the numbers of its lines.
pub record HasCounts (name : ℕ) (run : Run) (lane : Lane) (counts : LaneCounts) : Type 0 where
  pub name_is : (counts.name.run ≡ name) × (counts.name.number ≡ lane.number)
  pub home : counts.name.home.now ≡ string_bytes lane.home.0
  pub entries : (counts.first ≡ lane.tally.first) × (counts.entries ≡ lane.tally.entries) × (counts.not_judged ≡ lane.not_judged)
  pub verdict : (serials numbers : List ℕ) → Counts lane.tally serials → Keeps lane.account.numbers numbers
      → JudgesLane lane.tally lane.account lane.ending (IsTrue (counts.late || (counts.bare || (counts.uncounted || not (lane.not_judged == 0))))) serials numbers counts.verdict

-- What is told of a lane besides: why it is a part, what became of its requests, whether its numbers are merged, its steps back in time,
-- and how many requests it took over.
abbrev pub part_of : LaneCounts → Option Finding
part_of counts = if is_partial counts then Some (finding.Part counts) else None

abbrev pub fates_of : LaneCounts → Lane → Option Finding
fates_of counts lane =
    option_map (λ told. finding.Fates counts.name (record { accepted = told.accepted; answered = lane.tally.entries; left = lane.account.left })) lane.account.told

abbrev pub ranges_of : LaneCounts → Lane → Option Finding
ranges_of counts lane = if lane.account.numbers.exact_from == 0 then None else Some (finding.Ranges counts.name)

abbrev pub back_of : LaneCounts → Lane → Option Finding
back_of counts lane = if lane.times.back == 0 then None else Some (finding.Back counts.name lane.times.back)

abbrev pub resumed_of : LaneCounts → Lane → Option Finding
resumed_of counts lane = if lane.resumed.count == 0 then None else Some (finding.Resumed counts.name lane.resumed.count)

pub record TellsLane (name : ℕ) (run : Run) (lane : Lane) (text : List ℕ) : Type 0 where
  pub counts : LaneCounts
  pub has : HasCounts name run lane counts
  pub is : text ≡ printed (finding.Lane counts) ++ (printed_if (part_of counts) ++ (printed_if (fates_of counts lane) ++ (printed_if (ranges_of counts lane) ++ (printed_if (back_of counts lane) ++ printed_if (resumed_of counts lane)))))

-- The lanes of a run, one after the other.
abbrev pub TellsLanes : ℕ → Run → List Lane → List ℕ → Type 0
TellsLanes name run [] text = text ≡ []
TellsLanes name run (lane ∷ lanes) text = (first rest : List ℕ) × (text ≡ first ++ rest) × TellsLane name run lane first × TellsLanes name run lanes rest

-- A run: its lanes, and then what else is told of it.
pub record TellsRun (name : ℕ) (run : Run) (text : List ℕ) : Type 0 where
  pub lanes : List ℕ
  pub rest : List ℕ
  pub is : text ≡ lanes ++ rest
  pub tells : TellsLanes name run run.lanes.items lanes

-- The runs of these names, one after the other.
abbrev pub TellsRuns : Runs → List ℕ → List ℕ → Type 0
TellsRuns runs [] text = text ≡ []
TellsRuns runs (name ∷ names) text =
    (first rest : List ℕ) × (text ≡ first ++ rest) × MatchOption (get nat_cmp runs.runs name) (first ≡ []) (λ run. TellsRun name run first) × TellsRuns runs names rest

-- The octets that a writer got are more by a text of which this is so.
abbrev pub Gets : (List ℕ → Type 0) → Option (List ℕ) → Option (List ℕ) → Type 0
Gets Is old new = (text : List ℕ) × Appends old new text × Is text
