use Rattle.json_objects.proofs.Adding.{item_added, items_added}
use Rattle.config_json.specs.Written.{client_value}
use Rattle.config_json.proofs.writing.write_clients.Goals as goal

pub loop-client-preserved : goal.loop-client-preserved
loop-client-preserved c =
    item_added (client_value c.args.with_secrets) c.args.writer.now c.loop-client.writer c.client_members.new.writer c.args.clients.now c.loop-client.client-index c.client-item.result c.loop-client-test.true c.client-item.is c.loop-client.invariant c.in_ok-client_members.ensures

pub returns : goal.returns
returns c = items_added (client_value c.args.with_secrets) c.end_array.result c.args.writer.now c.loop-client.writer c.end_array.new.self c.args.clients.now c.loop-client.client-index c.loop-client-test.false c.loop-client.invariant c.end_array.ensures
