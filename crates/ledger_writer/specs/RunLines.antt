-- The line that begins a file, and the line that ends a run.
use Rattle.std.specs.Prelude.{◌≡◌, ℕ, zero, suc, ◌<◌, ◌≤◌, ◌≢◌, Bool, List, [], ◌∷◌, ◌++◌, if◌then◌else◌, nat_lt, length, map, take, slice_index, String, string_bytes, slice_get, Option, Some, None, option_copied, ⊤}
use Rattle.json_objects.specs.Written.{HasFrontBehind}
use Rattle.ledger_files.specs.Tails.{tail_of}
use Rattle.ledger_lines.specs.Written.{begin_value, end_value}
use Rattle.ledger_lines.specs.declared.begin.Begin.{Begin}
use Rattle.ledger_lines.specs.declared.end.End.{End}
use Rattle.ledger_lines.specs.declared.begin.FileBefore.{FileBefore}
use Rattle.ledger_lines.specs.declared.end.LaneCount.{LaneCount}
use Rattle.ledger_lines.specs.declared.lane_start.LaneStart.{LaneStart}
use Rattle.ledger_files.specs.declared.disk.FoundFile.{FoundFile}
use Rattle.ledger_writer.specs.Progress.{start_by}
use Rattle.ledger_writer.specs.declared.lines.FileStart.{FileStart}
use Rattle.ledger_writer.specs.declared.progress.LaneProgress.{LaneProgress}
use Rattle.ledger_writer.specs.declared.run_names.RunNames.{RunNames}

-- The lane of a place in the run: a line has numbers of 16 bits.
abbrev pub lane_number : ℕ → ℕ
lane_number place = if nat_lt place 65536 then place else 65535

-- The numbers of the first lanes, so many, in order.
abbrev pub lane_numbers : ℕ → List ℕ
lane_numbers zero = []
lane_numbers (suc count) = lane_numbers count ++ lane_number count ∷ []

-- The serial of a lane's next entry, 0 where there is no such lane. A ledger has none of 2^63 or above.
abbrev pub bounded : ℕ → ℕ
bounded serial = if nat_lt serial 9223372036854775807 then serial else 9223372036854775807

abbrev pub serial_in : Bool → Option LaneProgress → ℕ
serial_in gone None = 0
serial_in gone (Some lane) = bounded (start_by gone lane)

abbrev pub serials_in : Bool → List LaneProgress → ℕ → List ℕ
serials_in gone lanes zero = []
serials_in gone lanes (suc count) = serials_in gone lanes count ++ serial_in gone (slice_get lanes count) ∷ []

-- The lanes of these home servers, in order, with the serials of their next entries.
pub record AreStarts {A : Type 0} (names : List (String A)) (gone : Bool) (lanes : List LaneProgress) (starts : List LaneStart) : Type 0 where
  pub numbers : map (λ start. start.lane) starts ≡ lane_numbers (length names)
  pub homes : map (λ start. start.home.now) starts ≡ map string_bytes names
  pub serials : map (λ start. start.serial) starts ≡ serials_in gone lanes (length names)

-- What is counted of a lane: how many responses were taken, and, once that is told, how many requests were accepted and are left.
abbrev pub count_in : ℕ → ℕ → Option (ℕ × ℕ) → LaneCount
count_in place taken None = record { lane = lane_number place; entries = taken; accepted = None; left = None }
count_in place taken (Some end) = record { lane = lane_number place; entries = taken; accepted = Some end.0; left = Some end.1 }

-- So many lanes are counted, in order.
abbrev pub AreCounted : ℕ → List LaneCount → Type 0
AreCounted lanes counts = map (λ count. count.lane) counts ≡ lane_numbers lanes

-- The file that was found, as a line names it.
pub record Names (found : FoundFile) (file : FileBefore) : Type 0 where
  pub name : file.name.now ≡ string_bytes found.name
  pub sum_is : file.sum ≡ found.sum

abbrev pub NamesIfAny : Option FoundFile → Option FileBefore → Type 0
NamesIfAny None None = ⊤
NamesIfAny None (Some file) = ⊥
NamesIfAny (Some found) None = ⊥
NamesIfAny (Some found) (Some file) = Names found file

-- The body of a line is behind these octets that begins a file of the run.
pub record BeginsBehind (names : RunNames) (start : FileStart) (progress : List LaneProgress) (before all : List ℕ) : Type 0 where
  pub line : Begin
  pub run : line.run ≡ names.run
  pub file : line.file ≡ start.file
  pub whole : line.hidden ≡ None
  pub before_is : NamesIfAny (option_copied start.before) line.before
  pub lanes : AreStarts names.homes.items start.is_gone progress line.lanes.items
  pub its_value : HasFrontBehind before all (begin_value line)

-- The body of a line is behind these octets that ends the run.
pub record EndsBehind (names : RunNames) (before all : List ℕ) : Type 0 where
  pub line : End
  pub run : line.run ≡ names.run
  pub whole : line.hidden ≡ None
  pub lanes : AreCounted (length names.homes.items) line.lanes.items
  pub its_value : HasFrontBehind before all (end_value line)

-- The last whole line of these octets, whose line end is the last one in them, has this sum.
pub record EndsWithSum (octets sum : List ℕ) : Type 0 where
  pub end : ℕ
  pub within : end ≤ length octets
  pub front : List ℕ
  pub body : List ℕ
  pub line : take end octets ≡ front ++ (body ++ tail_of sum)
  pub last : (place : ℕ) → end ≤ place → place < length octets → slice_index octets place ≢ 10
