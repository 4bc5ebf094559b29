-- What a lane is set up with (own), and which requests lead to it.
use Rattle.std.specs.Prelude.{◌≡◌, ℕ, ◌<◌, List, length, slice_get, Option, Some, None, is_none, Bool, false, ◌||◌, ◌==◌, if◌then◌else◌, IsTrue}
use Rattle.std.specs.List.{list_any}
use Rattle.rad_config.specs.declared.limits.LimitNumbers.{LimitNumbers}
use Rattle.rad_realms.specs.Configuration.{HomeEntry, RealmEntry, Configuration}
use Rattle.rad_realms.specs.Realm.{realm_of_packet, realms_of, row_of, same_name}

-- The lane's number and number of source ports, its home server's secret and limits, the realms of the table that lead
-- to it, the table if the realms that are in no row of it lead to the lane, and whether requests without a realm do.
pub record LaneSetup : Type 0 where
  pub lane : ℕ
  pub ports : ℕ
  pub home_secret : List ℕ
  pub limits : LimitNumbers
  pub realms : List (List ℕ)
  pub unlisted : Option (List RealmEntry)
  pub is_default : Bool

-- Whether there is a lane, and it is this one.
abbrev pub is_lane : ℕ → Option ℕ → Bool
is_lane lane None = false
is_lane lane (Some other) = other == lane

-- What a configuration sets a lane up with: its own home server's secret and limits, of which the number of source
-- ports is one, the realms that lead to it, the table if it is the lane of all other realms, and whether it is the
-- default.
pub record IsSetUp (config : Configuration) (lane : ℕ) (setup : LaneSetup) : Type 0 where
  pub home : HomeEntry
  pub there : slice_get config.homes lane ≡ Some home
  pub parts : setup ≡ record {
    lane = lane;
    ports = home.limits.ports;
    home_secret = home.secret;
    limits = home.limits;
    realms = realms_of config.realms lane;
    unlisted = if is_lane lane config.other_lane then Some config.realms else None;
    is_default = is_lane lane config.default_lane;
  }

-- The lane has this number, and its home server has this secret.
pub record IsOf (setup : LaneSetup) (lane : ℕ) (secret : List ℕ) : Type 0 where
  pub number : setup.lane ≡ lane
  pub home : setup.home_secret ≡ secret

-- Whether a realm is one of these names.
abbrev pub is_among : List (List ℕ) → List ℕ → Bool
is_among names realm = list_any (λ name. same_name name realm) names

-- Whether there is a table, and the realm is in no row of it.
abbrev pub is_beside : Option (List RealmEntry) → List ℕ → Bool
is_beside None realm = false
is_beside (Some table) realm = is_none (row_of table realm)

-- Requests of this realm, or of none, lead to the lane: it is one of the lane's realms, or, at the lane of all other
-- realms, it is in no row of the table. An empty realm leads to no lane.
abbrev pub LeadsHere : LaneSetup → Option (List ℕ) → Type 0
LeadsHere setup None = IsTrue setup.is_default
LeadsHere setup (Some realm) = (0 < length realm) × IsTrue (is_among setup.realms realm || is_beside setup.unlisted realm)

-- The packet's realm leads to the lane.
abbrev pub IsOfItsRealms : LaneSetup → List ℕ → Type 0
IsOfItsRealms setup text = LeadsHere setup (realm_of_packet text)
