-- Where an outstanding request comes from (own).
use Rattle.std.specs.Prelude.{ℕ, take, Option, option_map, option_and_then}
use Rattle.std.specs.FinMap as map
use Rattle.rad_config.specs.Realm.{user_name}
use Rattle.rad_tables.specs.declared.slots.Slot.{Slot}
use Rattle.rad_lane.specs.Book.{Book}
use Rattle.rad_lane.specs.Entries.{request_in}
use Rattle.rad_lane.specs.Outstanding.{Outstanding}
use Rattle.rad_lane.specs.Session.{session_id}
use Rattle.rad_lane.specs.Stamp.{Recorded}
use Rattle.locked_lanes.specs.declared.origin.Origin.{Origin}

-- The origin of a request: its number, its client's address and port, its User-Name and its session.
abbrev pub origin_of : Recorded → Origin
origin_of request = record {
  number = request.stamp.number;
  client = record { address = request.stamp.client; port = request.stamp.port };
  user = option_map (take 253) (user_name request.text);
  session = option_map (take 253) (session_id request.text);
}

-- The request that is outstanding under a pair; a probe is none.
abbrev pub outstanding_under : Book → Slot → Option Outstanding
outstanding_under book slot = option_and_then request_in (map.get book.held slot)
