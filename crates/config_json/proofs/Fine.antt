-- The value of a configuration nests no deeper than a reader reads, and has no key twice.
use Rattle.std.proofs.Common.{ℕ, ◌≤◌, Bool, true, false, cond, List, Option, Some, None, option_map, refl, arith}
use Rattle.std.specs.Prelude.{⊤}
use Rattle.std.specs.List.{slice_get}
use Rattle.std.specs.Str.{is_utf8}
use Rattle.json.specs.Json.{string}
use Rattle.json_objects.proofs.Fine.{IsFine, MayBeFine, deeper, fine_array, fine_object}
use Rattle.rad_realms.specs.Configuration.{ClientEntry, HomeEntry, RealmEntry, Configuration}
use Rattle.config_json.specs.Written.{client_slots, client_value, config_slots, config_value, home_slots, home_value, name_at, realm_slots, realm_value, secret_value}

if_text : (most : ℕ) (t : Bool) (text : List ℕ) → MayBeFine most (cond t (Some (string text)) None)
if_text most true text = (omega arith, tt)
if_text most false text = tt

any_secret : (most : ℕ) (with_secrets : Bool) (secret : List ℕ) → MayBeFine most (secret_value with_secrets secret)
any_secret most false secret = tt
any_secret most true secret = if_text most (is_utf8 secret) secret

any_home : (most : ℕ) (home : Option HomeEntry) → MayBeFine most (option_map (λ h. string h.name) home)
any_home most None = tt
any_home most (Some home) = (omega arith, tt)

any_name : (most : ℕ) (homes : List HomeEntry) (lane : Option ℕ) → MayBeFine most (name_at homes lane)
any_name most homes None = tt
any_name most homes (Some lane) = any_home most (slice_get homes lane)

fine_client : (with_secrets : Bool) (client : ClientEntry) → IsFine 1 (client_value with_secrets client)
fine_client with_secrets client = fine_object 0 (client_slots with_secrets client) refl ((omega arith, tt), (any_secret 0 with_secrets client.secret, tt))

fine_home : (with_secrets : Bool) (home : HomeEntry) → IsFine 1 (home_value with_secrets home)
fine_home with_secrets home =
    let one : (0 ≤ 0) × ⊤ = (omega arith, tt) in
    fine_object 0 (home_slots with_secrets home) refl (one, (one, (any_secret 0 with_secrets home.secret, (one, (one, (one, (one, (one, (one, (one, (one, (one, (one, tt)))))))))))))

fine_realm : (homes : List HomeEntry) (realm : RealmEntry) → IsFine 1 (realm_value homes realm)
fine_realm homes realm = fine_object 0 (realm_slots homes realm) refl ((omega arith, tt), (any_name 0 homes (Some realm.lane), tt))

pub fine_config : (with_secrets : Bool) (c : Configuration) → IsFine 128 (config_value with_secrets c)
fine_config with_secrets c =
    deeper 3 128 (config_value with_secrets c) (omega arith)
    (fine_object 2 (config_slots with_secrets c) refl (
      (omega arith, tt),
      (
        any_name 2 c.homes c.default_lane,
        (
          any_name 2 c.homes c.other_lane,
          (
            (omega arith, tt),
            (
              fine_array (client_value with_secrets) 1 (fine_client with_secrets) c.clients,
              (fine_array (home_value with_secrets) 1 (fine_home with_secrets) c.homes, (fine_array (realm_value c.homes) 1 (fine_realm c.homes) c.realms, tt)),
            ),
          ),
        ),
      ),
    ))
