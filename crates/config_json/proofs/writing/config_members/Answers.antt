use Rattle.std.proofs.Common.{ℕ, List, [], ◌∷◌, Option, Some, codes, ap}
use Rattle.json.specs.Json.{array, string}
use Rattle.rad_config.specs.declared.reading.address.Endpoint.{Endpoint}
use Rattle.rad_realms.specs.Configuration.{HomeEntry}
use Rattle.rad_realms.specs.Printed.{endpoint_text}
use Rattle.json_objects.specs.Written.{items_of, number_value}
use Rattle.config_json.specs.Written.{client_value, config_slots, home_value, name_at, realm_value}
use Rattle.json_objects.proofs.Adding.{opened, opens_then, closes, listed, slots_are}
use Rattle.config_json.proofs.writing.config_members.Goals as goal

pub returns : goal.returns
returns c =
    let config = c.args.config.now in
    let asked = c.args.with_secrets in
    let first = opened c.args.writer.now c.begin_object.new.self c.in_ok-begin_object.ensures.room.0 c.in_ok-begin_object.ensures.ok in
    let listen = slots_are _ _ (ap (λ (x : Endpoint). (codes "listen", Some (string (endpoint_text x))) ∷ []) c.listen-listen.ensures) c.in_ok-endpoint.ensures in
    let default = slots_are _ _ (ap (λ (x : Option ℕ). (codes "default_home", name_at config.homes x) ∷ []) c.lane_of-default.ensures.lane)
    (slots_are _ _ (ap (λ (x : List HomeEntry). (codes "default_home", name_at x c.lane_of-default.result) ∷ []) c.homes-homes.ensures.value) c.in_ok-home_name_if_any.ensures) in
    let other = slots_are _ _ (ap (λ (x : Option ℕ). (codes "other_home", name_at config.homes x) ∷ []) c.other_lane-other.ensures.value)
    (slots_are _ _ (ap (λ (x : List HomeEntry). (codes "other_home", name_at x c.other_lane-other.result) ∷ []) c.homes-homes.ensures.value) c.in_ok-home_name_if_any-2.ensures) in
    let linger = slots_are _ _ (ap (λ (x : ℕ). (codes "linger", Some (number_value x)) ∷ []) c.linger-linger.ensures) c.in_ok-number.ensures in
    let clients = listed (client_value asked) c.number.new.writer c.key.new.self c.write_clients.new.writer (codes "client") c.clients-clients.result.now config.clients c.clients-clients.ensures.value
    c.in_ok-key.ensures.room.0 c.in_ok-key.ensures.ok c.in_ok-write_clients.ensures in
    let homes = listed (home_value asked) c.write_clients.new.writer c.key-2.new.self c.write_homes.new.writer (codes "home") c.homes-homes.result.now config.homes c.homes-homes.ensures.value
    c.in_ok-key-2.ensures.room.0 c.in_ok-key-2.ensures.ok c.in_ok-write_homes.ensures in
    let realms = listed (realm_value c.homes-homes.result.now) c.write_homes.new.writer c.key-3.new.self c.write_realms.new.writer (codes "realm") c.realms-realms.result.now config.realms c.realms-realms.ensures.value
    c.in_ok-key-3.ensures.room.0 c.in_ok-key-3.ensures.ok c.in_ok-write_realms.ensures in
    let told = slots_are _ _ (ap (λ (x : List HomeEntry). (codes "realm", Some (array (items_of (realm_value x) config.realms))) ∷ []) c.homes-homes.ensures.value) realms in
    closes c.end_object.result c.args.writer.now c.write_realms.new.writer c.end_object.new.self (config_slots asked config)
    (opens_then (opens_then (opens_then (opens_then (opens_then (opens_then (opens_then first listen) default) other) linger) clients) homes) told) c.end_object.ensures
