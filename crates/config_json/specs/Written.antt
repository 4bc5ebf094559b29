-- The value of JSON that a configuration is printed as (own): its own keys, each with what the program read, or its default.
use Rattle.std.specs.Prelude.{ℕ, Bool, true, false, List, [], ◌∷◌, ◌++◌, codes, cond, Option, Some, None, option_map, option_and_then}
use Rattle.std.specs.List.{slice_get}
use Rattle.std.specs.Str.{is_utf8}
use Rattle.json.specs.Json.{Json, string, array}
use Rattle.json_objects.specs.Written.{object_of, items_of, number_value}
use Rattle.rad_config.specs.declared.limits.LimitNumbers.{LimitNumbers}
use Rattle.rad_realms.specs.Configuration.{ClientEntry, HomeEntry, RealmEntry, Configuration}
use Rattle.rad_realms.specs.Printed.{address_text, endpoint_text}

-- A secret, if secrets are asked for. It is text, as TOML is.
abbrev pub secret_value : Bool → List ℕ → Option Json
secret_value false secret = None
secret_value true secret = cond (is_utf8 secret) (Some (string secret)) None

abbrev pub secret_slots : Bool → List ℕ → List (List ℕ × Option Json)
secret_slots with_secrets secret = (codes "secret", secret_value with_secrets secret) ∷ []

-- A client.
abbrev pub client_slots : Bool → ClientEntry → List (List ℕ × Option Json)
client_slots with_secrets client = (codes "address", Some (string (address_text client.address))) ∷ secret_slots with_secrets client.secret

abbrev pub client_value : Bool → ClientEntry → Json
client_value with_secrets client = object_of (client_slots with_secrets client)

-- A home server.
abbrev pub limits_slots : LimitNumbers → List (List ℕ × Option Json)
limits_slots numbers =
    (codes "window", Some (number_value numbers.window)) ∷ (codes "queue", Some (number_value numbers.queue)) ∷ (codes "book", Some (number_value numbers.book))
    ∷ (codes "tries", Some (number_value numbers.tries)) ∷ (codes "first_wait", Some (number_value numbers.first_wait))
    ∷ (codes "probe_every", Some (number_value numbers.probe_every)) ∷ (codes "down_wait", Some (number_value numbers.down_wait))
    ∷ (codes "span", Some (number_value numbers.span)) ∷ (codes "ring", Some (number_value numbers.ring)) ∷ (codes "ports", Some (number_value numbers.ports)) ∷ []

abbrev pub home_slots : Bool → HomeEntry → List (List ℕ × Option Json)
home_slots with_secrets home =
    (codes "name", Some (string home.name)) ∷ (codes "address", Some (string (endpoint_text home.endpoint)))
    ∷ (secret_slots with_secrets home.secret ++ limits_slots home.limits)

abbrev pub home_value : Bool → HomeEntry → Json
home_value with_secrets home = object_of (home_slots with_secrets home)

-- The name of the home server of a lane.
abbrev pub name_at : List HomeEntry → Option ℕ → Option Json
name_at homes lane = option_map (λ home. string home.name) (option_and_then (slice_get homes) lane)

-- A realm, with the name of the home server that it leads to.
abbrev pub realm_slots : List HomeEntry → RealmEntry → List (List ℕ × Option Json)
realm_slots homes realm = (codes "name", Some (string realm.name)) ∷ (codes "home", name_at homes (Some realm.lane)) ∷ []

abbrev pub realm_value : List HomeEntry → RealmEntry → Json
realm_value homes realm = object_of (realm_slots homes realm)

-- A configuration.
abbrev pub config_slots : Bool → Configuration → List (List ℕ × Option Json)
config_slots with_secrets c =
    (codes "listen", Some (string (endpoint_text c.listen))) ∷ (codes "default_home", name_at c.homes c.default_lane) ∷ (codes "other_home", name_at c.homes c.other_lane)
    ∷ (codes "linger", Some (number_value c.linger))
    ∷ (codes "client", Some (array (items_of (client_value with_secrets) c.clients))) ∷ (codes "home", Some (array (items_of (home_value with_secrets) c.homes)))
    ∷ (codes "realm", Some (array (items_of (realm_value c.homes) c.realms))) ∷ []

abbrev pub config_value : Bool → Configuration → Json
config_value with_secrets c = object_of (config_slots with_secrets c)
