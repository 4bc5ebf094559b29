use Rattle.json_objects.proofs.Adding.{item_added, items_added}
use Rattle.config_json.specs.Written.{home_value}
use Rattle.config_json.proofs.writing.write_homes.Goals as goal

pub loop-home-preserved : goal.loop-home-preserved
loop-home-preserved c =
    item_added (home_value c.args.with_secrets) c.args.writer.now c.loop-home.writer c.home_members.new.writer c.args.homes.now c.loop-home.home-index c.home-item.result c.loop-home-test.true c.home-item.is c.loop-home.invariant c.in_ok-home_members.ensures

pub returns : goal.returns
returns c = items_added (home_value c.args.with_secrets) c.end_array.result c.args.writer.now c.loop-home.writer c.end_array.new.self c.args.homes.now c.loop-home.home-index c.loop-home-test.false c.loop-home.invariant c.end_array.ensures
