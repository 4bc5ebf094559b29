use Rattle.std.proofs.Common.{ℕ, List, [], ◌∷◌, Some, codes, ap}
use Rattle.json.specs.Json.{string}
use Rattle.config_json.specs.Written.{name_at, realm_slots}
use Rattle.json_objects.proofs.Adding.{opened, opens_then, closes, slots_are}
use Rattle.config_json.proofs.writing.realm_members.Goals as goal

pub returns : goal.returns
returns c =
    let realm = c.args.realm.now in
    let homes = c.args.homes.now in
    let first = opened c.args.writer.now c.begin_object.new.self c.in_ok-begin_object.ensures.room.0 c.in_ok-begin_object.ensures.ok in
    let name = slots_are _ _ (ap (λ (x : List ℕ). (codes "name", Some (string x)) ∷ []) c.name-name.ensures) c.in_ok-text.ensures in
    let home = slots_are _ _ (ap (λ (x : ℕ). (codes "home", name_at homes (Some x)) ∷ []) c.lane-lane.ensures) c.in_ok-home_name_if_any.ensures in
    closes c.end_object.result c.args.writer.now c.home_name_if_any.new.writer c.end_object.new.self (realm_slots homes realm) (opens_then (opens_then first name) home) c.end_object.ensures
