-- What the files of a run hold, and what is still to be written to them.
use Rattle.std.specs.Prelude.{◌≡◌, ℕ, ◌+◌, ◌<◌, ◌⊎◌, Bool, true, false, List, [], ◌∷◌, ◌++◌, length, take, drop, Option, IfSome}
use mathlib.Core.List.{IsPrefix}
use Rattle.ledger_files.specs.Batches.{HoldsLines}
use Rattle.ledger_files.specs.Chains.{chain_of}
use Rattle.ledger_files.specs.Files.{File}
use Rattle.ledger_files.specs.Tails.{bodies_in, line_after, sum_after, sums_after, text_after}
use Rattle.ledger_files.specs.declared.batch.Batch.{Batch}
use Rattle.ledger_files.specs.declared.pending.Pending.{Pending}
use Rattle.ledger_files.specs.declared.run_files.RunFiles.{RunFiles}

-- A file of a run, by the bodies of its lines: of the line that begins it, of the lines of entries that are whole in it, of the line that
-- ends the run, where octets of one stand behind them, and of those of all these lines that were passed as written whole, in order.
pub record Part : Type 0 where
  pub begin : List ℕ
  pub lines : List (List ℕ)
  pub end : List ℕ
  pub passed : List (List ℕ)

-- The bodies of the entries that are whole in these parts, in order. The part of the newest file comes first.
abbrev pub lines_of : List Part → List (List ℕ)
lines_of [] = []
lines_of (part ∷ older) = lines_of older ++ part.lines

-- Those of the lines that were passed, in order.
abbrev pub passed_of : List Part → List (List ℕ)
passed_of [] = []
passed_of (part ∷ older) = passed_of older ++ part.passed

-- The sum behind the line that begins a file, and behind the lines of entries in it, by the sum before the file.
abbrev pub begin_sum : List ℕ → Part → List ℕ
begin_sum before part = sum_after before part.begin

abbrev pub lines_sum : List ℕ → Part → List ℕ
lines_sum before part = sums_after (begin_sum before part) part.lines

-- The octets of a file are the front of its begin line, which was cut short.
pub record IsCutShort (before : List ℕ) (file : File) (part : Part) : Type 0 where
  pub lines : part.lines ≡ []
  pub front : IsPrefix file.octets (line_after before part.begin)
  pub passed : part.passed ≡ []

-- They are its begin line, its lines, and the front of the lines that were to come next.
pub record IsGoneOn (before : List ℕ) (file : File) (part : Part) (next : List (List ℕ)) : Type 0 where
  pub cut : List ℕ
  pub front : IsPrefix cut (text_after (lines_sum before part) next)
  pub octets : file.octets ≡ line_after before part.begin ++ (text_after (begin_sum before part) part.lines ++ cut)
  pub passed : part.passed ≡ part.begin ∷ part.lines

-- They are its begin line, its lines, and the front of the line that ends the run, or all of it. If another file is begun then, such a line
-- is made anew for it.
pub record IsEnded (before : List ℕ) (file : File) (part : Part) : Type 0 where
  pub over : List ℕ
  pub front : IsPrefix over (line_after (lines_sum before part) part.end)
  pub octets : file.octets ≡ line_after before part.begin ++ (text_after (begin_sum before part) part.lines ++ over)
  pub passed : (part.passed ≡ part.begin ∷ part.lines) ⊎ ((over ≡ line_after (lines_sum before part) part.end) × (part.passed ≡ part.begin ∷ (part.lines ++ part.end ∷ [])))

abbrev pub IsFile : List ℕ → File → Part → List (List ℕ) → Type 0
IsFile before file part next = IsCutShort before file part ⊎ (IsGoneOn before file part next ⊎ IsEnded before file part)

-- These are the files of these parts, each sealed behind what was passed before it. What comes next after a file are the bodies in the newer
-- files, and then `next`: a line that was cut short is written again, whole, to the next file, sealed behind the line that begins that one.
abbrev pub AreFiles : List File → List Part → List (List ℕ) → Type 0
AreFiles [] [] next = Unit {0}
AreFiles [] (part ∷ parts) next = ⊥
AreFiles (file ∷ older) [] next = ⊥
AreFiles (file ∷ older) (part ∷ parts) next = IsFile (chain_of (passed_of parts)) file part next × AreFiles older parts (part.lines ++ next)

-- A line that is being written: its octets, how many of them are written, and whether it was passed as written whole.
pub record Begun : Type 0 where
  pub octets : List ℕ
  pub done : ℕ
  pub is_passed : Bool

-- What was passed of the open file, by the bodies.
abbrev pub passed_in : Bool → List ℕ → List (List ℕ) → Bool → List ℕ → List (List ℕ)
passed_in false begin lines over end = []
passed_in true begin lines false end = begin ∷ lines
passed_in true begin lines true end = begin ∷ (lines ++ end ∷ [])

-- The line that ends the run is not made, or it is, behind all others.
abbrev pub IsEndMade : List ℕ → Part → Begun → List (List ℕ) → Begun → Type 0
IsEndMade before part first left last =
    (last.octets ≡ []) ⊎ ((first.is_passed ≡ true) × (left ≡ []) × (last.octets ≡ line_after (lines_sum before part) part.end))

-- How far the line that begins the open file, lines of entries and the line that ends the run are written to it. Entries are written
-- once the first line was passed, and the last line once all entries were.
pub record IsOpenFile (before : List ℕ) (file : File) (part : Part) (first : Begun) (left : List (List ℕ)) (written : ℕ) (last : Begun) : Type 0 where
  pub begin : first.octets ≡ line_after before part.begin
  pub end : IsEndMade before part first left last
  pub octets : file.octets ≡ take first.done first.octets ++ (text_after (begin_sum before part) part.lines ++ (take written (text_after (lines_sum before part) left) ++ take last.done last.octets))
  pub in_order : ((first.is_passed ≡ true) × (first.done ≡ length first.octets)) ⊎ ((first.is_passed ≡ false) × (part.lines ≡ []) × (written ≡ 0) × (last.octets ≡ []))
  pub over : (last.is_passed ≡ false) ⊎ ((last.is_passed ≡ true) × (first.is_passed ≡ true) × (left ≡ []) × (last.done ≡ length last.octets) × (0 < length last.octets))
  pub passed : part.passed ≡ passed_in first.is_passed part.begin part.lines last.is_passed part.end

-- The same of the newest file. Nothing is written if there is none.
abbrev pub IsOpenRun : List File → List Part → Begun → List (List ℕ) → ℕ → Begun → Type 0
IsOpenRun [] parts first left written last = (parts ≡ []) × (written ≡ 0) × (last.octets ≡ []) × (last.is_passed ≡ false) × (first.is_passed ≡ false)
IsOpenRun (file ∷ older) [] first left written last = ⊥
IsOpenRun (file ∷ older) (part ∷ parts) first left written last = IsOpenFile (chain_of (passed_of parts)) file part first left written last

-- The files of a run whose entries have these bodies, so far: each body that is not in `left` is whole in one of the files, once, in order,
-- in a line that is sealed behind the one before it in the run. The sum is that of the last line that was passed.
pub record IsRunWith (files : List File) (first : Begun) (left : List (List ℕ)) (written : ℕ) (last : Begun) (sum : List ℕ) (bodies : List (List ℕ)) : Type 0 where
  pub parts : List Part
  pub lines_are : bodies ≡ lines_of parts ++ left
  pub files_are : AreFiles files parts left
  pub open_is : IsOpenRun files parts first left written last
  pub sum_is : sum ≡ chain_of (passed_of parts)

-- The bodies of the lines of a batch that are not written whole, and how many octets of these lines are written.
pub record IsLeft (batch : Batch) (left : List (List ℕ)) (written : ℕ) : Type 0 where
  pub held : List (List ℕ)
  pub batch_is : HoldsLines batch held
  pub left_is : left ≡ bodies_in (drop batch.whole held)
  pub written_is : batch.start + written ≡ batch.done

-- How far a line is written.
abbrev pub begun_of : Pending → Begun
begun_of line = record { octets = line.octets.items; done = line.done; is_passed = line.is_passed }

-- The files of a run, with what is to be written.
pub record IsRunOf (files : List File) (first : Pending) (batch : Batch) (last : Pending) (sum : List ℕ) (bodies : List (List ℕ)) : Type 0 where
  pub left : List (List ℕ)
  pub written : ℕ
  pub batch_is : IsLeft batch left written
  pub run_is : IsRunWith files (begun_of first) left written (begun_of last) sum bodies

-- The same of a disk, which may keep no record of its files.
abbrev pub IsRun : {D : Type 0} → Option (List File) → RunFiles D → List (List ℕ) → Type 0
IsRun files run bodies = IfSome files (λ files. IsRunOf files run.first run.batch run.last run.chain.sum bodies)
