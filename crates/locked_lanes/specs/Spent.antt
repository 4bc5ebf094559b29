-- What is reported of the request that marks a home server down (own).
use Rattle.std.specs.Prelude.{◌≡◌, ℕ, ◌-◌, take, option_map}
use Rattle.rad_lane.specs.Session.{session_id}
use Rattle.rad_lane.specs.Outstanding.{Outstanding}
use Rattle.rad_lane.specs.Book.{Book}
use Rattle.rad_lane.specs.Dues.{IsFirstSpent}
use Rattle.locked_lanes.specs.declared.spent.Spent.{Spent}

-- What is reported of a sending at a moment: its number, its client's address and port, its session and how long ago it
-- was accepted.
abbrev pub spent_of : Outstanding → ℕ → Spent
spent_of entry moment = record {
  number = entry.request.stamp.number;
  client = record { address = entry.request.stamp.client; port = entry.request.stamp.port };
  session = option_map (take 253) (session_id entry.request.text);
  age = moment - entry.request.stamp.moment;
}

-- This is reported of the spent sending with the earliest due time; ties go to the lowest number.
abbrev pub TellsSpent : Book → ℕ → Spent → Type 0
TellsSpent book moment spent = (entry : Outstanding) × IsFirstSpent book entry × (spent ≡ spent_of entry moment)
