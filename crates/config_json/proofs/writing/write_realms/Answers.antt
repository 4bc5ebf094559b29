use Rattle.json_objects.proofs.Adding.{item_added, items_added}
use Rattle.config_json.specs.Written.{realm_value}
use Rattle.config_json.proofs.writing.write_realms.Goals as goal

pub loop-realm-preserved : goal.loop-realm-preserved
loop-realm-preserved c =
    item_added (realm_value c.args.homes.now) c.args.writer.now c.loop-realm.writer c.realm_members.new.writer c.args.realms.now c.loop-realm.realm-index c.realm-item.result c.loop-realm-test.true c.realm-item.is c.loop-realm.invariant c.in_ok-realm_members.ensures

pub returns : goal.returns
returns c = items_added (realm_value c.args.homes.now) c.end_array.result c.args.writer.now c.loop-realm.writer c.end_array.new.self c.args.realms.now c.loop-realm.realm-index c.loop-realm-test.false c.loop-realm.invariant c.end_array.ensures
