-- A value that lacks what a line has is none.
use Rattle.std.proofs.Common.{◌≡◌, ◌∙◌, ℕ, ◌^◌, Some, None, MatchOption, refl, subst, sym, Result, Ok, Err, IsErrAnd, MatchResult, List, Option, codes}
use Rattle.std.specs.Prelude.{⊤}
use Rattle.json.specs.Json.{Json}
use Rattle.json.specs.Find.{get}
use Rattle.ledger_lines.specs.Lines.{Denies, HasText, HasNumber, MayHaveNumber, HasRun, HasTime, HasLanes, HasArray, HasSome, MayHaveKind, MayHaveSum, MayHaveFile, IsFileBefore, IsHidden, IsEnd, IsLaneStart, IsLaneCount, IsRecordCount}
use Rattle.ledger_lines.specs.declared.end.End.{End}
use Rattle.ledger_lines.specs.declared.begin.FileBefore.{FileBefore}
use Rattle.ledger_lines.specs.declared.hidden.Hidden.{Hidden}
use Rattle.ledger_lines.specs.declared.hidden.HiddenKind.{HiddenKind}
use Rattle.ledger_rules.specs.declared.record_count.RecordCount.{RecordCount}
use Rattle.ledger_lines.specs.declared.lane_start.LaneStart.{LaneStart}
use Rattle.ledger_lines.specs.declared.end.LaneCount.{LaneCount}
use Rattle.ledger_lines.specs.declared.faults.LineFault.{LineFault}
use Rattle.ledger_lines.specs.declared.faults.LineFault.TheVariants.{NotALine, OutOfMemory}

-- What denies one thing denies another one that has it.
pub denied : (A B : Type 0) → (B → A) → (fault : LineFault) → Denies fault A → Denies fault B
denied A B f NotALine n = λ b. n (f b)
denied A B f OutOfMemory n = tt

-- Nothing and something differ.
pub differ : {A : Type 0} (o : Option A) (x : A) → None ≡ o → o ≡ Some x → ⊥
differ o x n s = subst (λ p. MatchOption p ⊤ (λ _. ⊥)) (n ∙ s) tt

-- A fault that is passed on denies what it denied.
pub passed_on : (there : Type 0) {T : Type 0} (result : Result T LineFault) (P : T → Type 0) (fault : LineFault) → IsErrAnd result (λ f. f ≡ fault) → Denies fault there → MatchResult result P (λ f. Denies f there)
passed_on there (Ok x) P fault e d = absurd e
passed_on there (Err f) P fault e d = subst (λ x. Denies x there) (sym e) d

-- And so what has that.
pub part : (A B : Type 0) {T : Type 0} (P : T → Type 0) (result : Result T LineFault) (fault : LineFault) → IsErrAnd result (λ f. f ≡ fault) → Denies fault A → (B → A) → MatchResult result P (λ f. Denies f B)
part A B P result fault e d has = passed_on B result P fault e (denied A B has fault d)

module _ (value : Json) (fault : LineFault) where
  abbrev pub IsEndThere : Type 0
  IsEndThere = (x : End) × IsEnd value x

  pub end_run : Denies fault ((x : ℕ) × HasRun value x) → Denies fault IsEndThere
  end_run = denied _ _ (λ p. (p.0.run, p.1.run)) fault

  pub end_time : Denies fault ((x : List ℕ) × HasTime (codes "time") value x) → Denies fault IsEndThere
  end_time = denied _ _ (λ p. (p.0.time.now, p.1.time)) fault

  pub end_hidden : Denies fault ((x : Option ℕ) × MayHaveNumber (codes "hidden") (2 ^ 32) value x) → Denies fault IsEndThere
  end_hidden = denied _ _ (λ p. (p.0.hidden, p.1.hidden)) fault

  pub end_lanes : Denies fault ((x : List LaneCount) × HasLanes IsLaneCount value x) → Denies fault IsEndThere
  end_lanes = denied _ _ (λ p. (p.0.lanes.items, p.1.lanes)) fault

  abbrev pub IsFileThere : Type 0
  IsFileThere = (x : FileBefore) × IsFileBefore value x

  pub file_name : Denies fault ((x : List ℕ) × HasText (codes "name") value x) → Denies fault IsFileThere
  file_name = denied _ _ (λ p. (p.0.name.now, p.1.name)) fault

  pub file_sum : Denies fault ((x : Option (List ℕ)) × MayHaveSum (codes "sum") value x) → Denies fault IsFileThere
  file_sum = denied _ _ (λ p. (p.0.sum, p.1.sum)) fault

  abbrev pub IsHiddenThere : Type 0
  IsHiddenThere = (x : Hidden) × IsHidden value x

  pub hidden_sum : Denies fault ((x : List ℕ) × HasArray (codes "sum") 32 value x) → Denies fault IsHiddenThere
  hidden_sum = denied _ _ (λ p. (p.0.sum, p.1.sum)) fault

  pub hidden_lane : Denies fault ((x : Option ℕ) × MayHaveNumber (codes "lane") (2 ^ 16) value x) → Denies fault IsHiddenThere
  hidden_lane = denied _ _ (λ p. (p.0.lane, p.1.lane)) fault

  pub hidden_kind : Denies fault ((x : Option HiddenKind) × MayHaveKind value x) → Denies fault IsHiddenThere
  hidden_kind = denied _ _ (λ p. (p.0.kind, p.1.kind)) fault

  abbrev pub IsStartThere : Type 0
  IsStartThere = (x : LaneStart) × IsLaneStart value x

  pub start_lane : Denies fault ((x : ℕ) × HasNumber (codes "lane") (2 ^ 16) value x) → Denies fault IsStartThere
  start_lane = denied _ _ (λ p. (p.0.lane, p.1.lane)) fault

  pub start_home : Denies fault ((x : List ℕ) × HasText (codes "home") value x) → Denies fault IsStartThere
  start_home = denied _ _ (λ p. (p.0.home.now, p.1.home)) fault

  pub start_serial : Denies fault ((x : ℕ) × HasNumber (codes "serial") (2 ^ 63) value x) → Denies fault IsStartThere
  start_serial = denied _ _ (λ p. (p.0.serial, p.1.serial)) fault

  abbrev pub IsCountThere : Type 0
  IsCountThere = (x : LaneCount) × IsLaneCount value x

  pub count_lane : Denies fault ((x : ℕ) × HasNumber (codes "lane") (2 ^ 16) value x) → Denies fault IsCountThere
  count_lane = denied _ _ (λ p. (p.0.lane, p.1.lane)) fault

  pub count_entries : Denies fault ((x : ℕ) × HasNumber (codes "entries") (2 ^ 64) value x) → Denies fault IsCountThere
  count_entries = denied _ _ (λ p. (p.0.entries, p.1.entries)) fault

  pub count_accepted : Denies fault ((x : Option ℕ) × MayHaveNumber (codes "accepted") (2 ^ 64) value x) → Denies fault IsCountThere
  count_accepted = denied _ _ (λ p. (p.0.accepted, p.1.accepted)) fault

  pub count_left : Denies fault ((x : Option ℕ) × MayHaveNumber (codes "left") (2 ^ 64) value x) → Denies fault IsCountThere
  count_left = denied _ _ (λ p. (p.0.left, p.1.left)) fault

module _ (kind : List ℕ) (value : Json) (fault : LineFault) where
  abbrev pub IsRecordCountThere : Type 0
  IsRecordCountThere = (x : RecordCount) × IsRecordCount kind value x

  pub record_count_run : Denies fault ((x : ℕ) × HasRun value x) → Denies fault IsRecordCountThere
  record_count_run = denied _ _ (λ p. (p.0.run, p.1.run)) fault

  pub record_count_time : Denies fault ((x : List ℕ) × HasTime (codes "time") value x) → Denies fault IsRecordCountThere
  record_count_time = denied _ _ (λ p. (p.0.time.now, p.1.time)) fault

  pub record_count_home : Denies fault ((x : List ℕ) × HasText (codes "home") value x) → Denies fault IsRecordCountThere
  record_count_home = denied _ _ (λ p. (p.0.home.now, p.1.home)) fault

  pub record_count_lane : Denies fault ((x : ℕ) × HasNumber (codes "lane") (2 ^ 16) value x) → Denies fault IsRecordCountThere
  record_count_lane = denied _ _ (λ p. (p.0.lane, p.1.lane)) fault

  pub record_count_number : Denies fault ((x : ℕ) × HasNumber (codes "record") (2 ^ 64) value x) → Denies fault IsRecordCountThere
  record_count_number = denied _ _ (λ p. (p.0.number, p.1.record_is)) fault

  pub record_count_count : Denies fault ((x : ℕ) × HasSome value x) → Denies fault IsRecordCountThere
  record_count_count = denied _ _ (λ p. (p.0.count, p.1.count)) fault

-- The parts of each.
pub ruleset end_parts = (end_run, end_time, end_lanes, end_hidden)

pub ruleset file_parts = (file_name, file_sum)

pub ruleset hidden_parts = (hidden_sum, hidden_lane, hidden_kind)

pub ruleset start_parts = (start_lane, start_home, start_serial)

pub ruleset record_count_parts = (record_count_run, record_count_time, record_count_home, record_count_lane, record_count_number, record_count_count)

pub ruleset count_parts = (count_lane, count_entries, count_accepted, count_left)

-- ---- the file of another run that a value may name

module _ (value : Json) where
  abbrev pub FileIfAnyThere : Type 0
  FileIfAnyThere = (before : Option FileBefore) × MayHaveFile value before

  pub no_file : None ≡ get (codes "before") value → MayHaveFile value None
  no_file e = sym e

  pub file_found : (found : Json) (file : FileBefore) → Some found ≡ get (codes "before") value → IsFileBefore found file → MayHaveFile value (Some file)
  file_found found file e is = record { found = found; there = sym e; is = is }

  file_of : (found : Json) → Some found ≡ get (codes "before") value → FileIfAnyThere → (x : FileBefore) × IsFileBefore found x
  file_of found e (None, n) = absurd (differ (get (codes "before") value) found (sym n) (sym e))
  file_of found e (Some file, h) =
      let same : h.found ≡ found = subst (λ o. MatchOption o ⊤ (λ z. h.found ≡ z)) (sym h.there ∙ sym e) refl in
      (file, subst (λ j. IsFileBefore j file) same h.is)

  pub no_file_in : (fault : LineFault) (found : Json) → Some found ≡ get (codes "before") value → Denies fault ((x : FileBefore) × IsFileBefore found x) → Denies fault FileIfAnyThere
  no_file_in fault found e = denied ((x : FileBefore) × IsFileBefore found x) FileIfAnyThere (file_of found e) fault
