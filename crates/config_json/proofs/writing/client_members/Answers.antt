use Rattle.std.proofs.Common.{ℕ, List, [], ◌∷◌, Some, codes, ap}
use Rattle.json.specs.Json.{string}
use Rattle.rad_realms.specs.Printed.{address_text}
use Rattle.config_json.specs.Written.{client_slots, secret_slots}
use Rattle.json_objects.proofs.Adding.{opened, opens_then, closes, slots_are}
use Rattle.config_json.proofs.writing.client_members.Goals as goal

pub returns : goal.returns
returns c =
    let client = c.args.client.now in
    let asked = c.args.with_secrets in
    let first = opened c.args.writer.now c.begin_object.new.self c.in_ok-begin_object.ensures.room.0 c.in_ok-begin_object.ensures.ok in
    let place = slots_are _ _ (ap (λ (x : List ℕ). (codes "address", Some (string (address_text x))) ∷ []) c.address-place.ensures) c.in_ok-address.ensures in
    let secret = slots_are _ _ (ap (λ (x : List ℕ). secret_slots asked x) c.secret-secret.ensures) c.in_ok-secret_if_asked.ensures in
    closes c.end_object.result c.args.writer.now c.secret_if_asked.new.writer c.end_object.new.self (client_slots asked client) (opens_then (opens_then first place) secret) c.end_object.ensures
