use Rattle.std.proofs.Common.{ℕ, List, [], ◌∷◌, Some, codes, ap}
use Rattle.json.specs.Json.{string}
use Rattle.rad_config.specs.declared.limits.LimitNumbers.{LimitNumbers}
use Rattle.rad_config.specs.declared.reading.address.Endpoint.{Endpoint}
use Rattle.rad_realms.specs.Printed.{endpoint_text}
use Rattle.config_json.specs.Written.{home_slots, limits_slots, secret_slots}
use Rattle.json_objects.proofs.Adding.{opened, opens_then, closes, slots_are}
use Rattle.config_json.proofs.writing.home_members.Goals as goal

pub returns : goal.returns
returns c =
    let home = c.args.home.now in
    let asked = c.args.with_secrets in
    let first = opened c.args.writer.now c.begin_object.new.self c.in_ok-begin_object.ensures.room.0 c.in_ok-begin_object.ensures.ok in
    let name = slots_are _ _ (ap (λ (x : List ℕ). (codes "name", Some (string x)) ∷ []) c.name-name.ensures) c.in_ok-text.ensures in
    let place = slots_are _ _ (ap (λ (x : Endpoint). (codes "address", Some (string (endpoint_text x))) ∷ []) c.endpoint_of-place.ensures) c.in_ok-endpoint.ensures in
    let secret = slots_are _ _ (ap (λ (x : List ℕ). secret_slots asked x) c.secret-secret.ensures) c.in_ok-secret_if_asked.ensures in
    let numbers = slots_are _ _ (ap (λ (x : LimitNumbers). limits_slots x) c.numbers_of-numbers.ensures) c.in_ok-limits.ensures in
    closes c.end_object.result c.args.writer.now c.limits.new.writer c.end_object.new.self (home_slots asked home)
    (opens_then (opens_then (opens_then (opens_then first name) place) secret) numbers) c.end_object.ensures
