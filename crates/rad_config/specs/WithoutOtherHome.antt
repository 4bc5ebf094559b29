-- A configuration without the key `other_home`, as it was before there was this key (own): reading a document, its
-- faults, the lane of a realm, and the rank of a realm. None of these definitions knows the key. The law
-- `without_other_home_nothing_changed` states that those that do say the same where it is absent.
use Rattle.std.specs.Prelude.{◌≡◌, ℕ, List, ◌++◌, length, Option, Some, None, option_map, option_to_list, Result, Ok, true, ◌==◌, find, if◌then◌else◌}
use Rattle.std.specs.Result.{result_err}
use Rattle.toml.specs.Data.{Members}
use Rattle.rad_config.specs.declared.reading.faults.Part.TheVariants as part
use Rattle.rad_config.specs.declared.reading.faults.Key.TheVariants.{DefaultHome}
use Rattle.rad_config.specs.declared.reading.faults.ConfigFault.{ConfigFault}
use Rattle.rad_config.specs.Configuration.{RealmEntry, Configuration}
use Rattle.rad_config.specs.Realm.{same_name, realms_of, is_at}
use Rattle.rad_config.specs.Walk.{◌>>=◌, listen_in, home_name_in, linger_in, clients_in, homes_in, realms_in, lane_at}
use Rattle.rad_config.specs.Faults.{part_faults, unknown_faults}

-- The configuration that a document gives, or its first fault. No home server is named for the realms that are not
-- listed.
unfoldable pub walk_without : Members → Result Configuration ConfigFault
walk_without doc = do
  listen ← listen_in doc
  default_home ← home_name_in DefaultHome doc
  linger ← linger_in doc
  clients ← clients_in doc
  homes ← homes_in doc
  realms ← realms_in homes doc
  default_lane ← lane_at DefaultHome homes default_home
  Ok (record { listen = listen; linger = linger; clients = clients; homes = homes; realms = realms; default_lane = default_lane; other_lane = None })

-- All faults of a document.
unfoldable pub faults_without : Members → List ConfigFault
faults_without doc =
    option_to_list (result_err (listen_in doc))
    ++ (option_to_list (result_err (home_name_in DefaultHome doc))
    ++ (option_to_list (result_err (linger_in doc))
    ++ (part_faults part.Client doc ++ (part_faults part.Home doc ++ (part_faults part.Realm doc
    ++ unknown_faults DefaultHome doc)))))

-- The lane of a realm by the table, or the default lane if there is no realm. A realm that is empty or not in the table
-- has no lane.
abbrev pub lane_without : List RealmEntry → Option ℕ → Option (List ℕ) → Option ℕ
lane_without table default None = default
lane_without table default (Some realm) =
    if length realm == 0 then None else option_map (λ r. r.lane) (find (λ r. same_name r.name realm) table)

-- The rank of a realm among those that lead to its lane. Without a realm there is no rank.
abbrev pub IsRankWithout : List RealmEntry → ℕ → Option (List ℕ) → Option ℕ → Type 0
IsRankWithout table lane None rank = rank ≡ None
IsRankWithout table lane (Some realm) rank = is_at (λ name. same_name name realm) (realms_of table lane) rank ≡ true
