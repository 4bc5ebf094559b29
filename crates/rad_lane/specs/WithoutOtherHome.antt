-- Which requests lead to a lane where a configuration names no home server for all other realms (own).
use Rattle.std.specs.Prelude.{ℕ, ◌<◌, List, length, Option, Some, None, IsTrue}
use Rattle.std.specs.List.{list_any}
use Rattle.rad_realms.specs.Realm.{same_name}
use Rattle.rad_lane.specs.Setup.{LaneSetup}

-- Requests of this realm, or of none, lead to the lane: it is one of the lane's realms. An empty realm leads to no lane.
abbrev pub LeadsByTheTable : LaneSetup → Option (List ℕ) → Type 0
LeadsByTheTable setup None = IsTrue setup.is_default
LeadsByTheTable setup (Some realm) = (0 < length realm) × IsTrue (list_any (λ name. same_name name realm) setup.realms)
