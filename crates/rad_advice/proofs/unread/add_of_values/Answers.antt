use Rattle.std.proofs.Common.{ℕ, ◌+◌, map, refl, ap}
use Rattle.rad_advice.specs.Keys.{entry_found, read_names}
use Rattle.rad_advice.proofs.Items.{items_onward, items_end}
use Rattle.rad_advice.proofs.unread.add_of_values.Goals as goal

pub loop-value-init : goal.loop-value-init
loop-value-init c = (refl, refl)

pub loop-value-preserved : goal.loop-value-preserved
loop-value-preserved c =
    let names = read_names c.args.part in
    let one = rw c.loop-value.invariant.0 at c.in_ok-add_of_value.ensures in
    let told = map entry_found c.loop-value.found.items in
    let more = map entry_found c.add_of_value.new.found.items in (
      ap (λ (k : ℕ). k + 1) c.loop-value.invariant.0,
      items_onward c.args.part names c.args.values.now c.loop-value.value-index c.value-item.result told more _ c.loop-value-test.true c.value-item.is one c.loop-value.invariant.1,
    )

pub returns : goal.returns
returns c =
    items_end c.args.part (read_names c.args.part) c.args.values.now c.loop-value.value-index (map entry_found c.loop-value.found.items) _ c.loop-value-test.false c.loop-value.invariant.1
