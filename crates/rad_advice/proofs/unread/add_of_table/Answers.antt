use Rattle.std.proofs.Common.{map}
use Rattle.rad_advice.specs.Keys.{entry_found, read_names}
use Rattle.rad_advice.proofs.Items.{keys_onward}
use Rattle.rad_advice.proofs.unread.add_of_table.Goals as goal

pub keys-preserved : goal.keys-preserved
keys-preserved c =
    let told = map entry_found c.keys.found.items in
    let more = map entry_found c.add_unless_read.new.found.items in (
      tt,
      tt,
      keys_onward c.args.part c.args.index (read_names c.args.part) c.in-Some.key.now c.in-Some._value.now c.next.new.self c.keys.key-iterator c.as_str.result.now told more _
          c.in-Some.ensures.steps c.as_str.ensures.value c.in_ok-add_unless_read.ensures c.keys.invariant.2,
    )
