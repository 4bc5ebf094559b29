-- How far the entries of a lane are written (own).
use Rattle.std.specs.Prelude.{ℕ, ◌+◌, ◌-◌, ◌^◌, ◌==◌, Bool, if◌then◌else◌, min}
use Rattle.ledger_writer.specs.declared.progress.LaneProgress.{LaneProgress}

abbrev pub not_begun : LaneProgress
not_begun = record { next = 0; from = 0; first = 0; held = 0 }

-- The entry of this serial is written to the file that is open.
abbrev pub passed_by : ℕ → LaneProgress → LaneProgress
passed_by serial lane = record {
  next = min (serial + 1) (2 ^ 64 - 1);
  from = lane.from;
  first = if lane.held == 0 then serial else lane.first;
  held = min (lane.held + 1) (2 ^ 64 - 1);
}

-- The serial that the next file begins with. If the file before is gone, the entries that it had are lost, and the next one begins where it
-- did.
abbrev pub start_by : Bool → LaneProgress → ℕ
start_by gone lane = if gone then lane.from else lane.next

-- The next file is begun, and has no entries yet.
abbrev pub at_next_file : Bool → LaneProgress → LaneProgress
at_next_file gone lane = record { next = lane.next; from = start_by gone lane; first = lane.first; held = 0 }
