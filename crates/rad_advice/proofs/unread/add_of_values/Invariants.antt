use Rattle.std.proofs.Common.{◌≡◌, ◌++◌, map, drop}
use Rattle.toml.specs.View.{items_view}
use Rattle.rad_advice.specs.Keys.{read_names, unread_in_items, entry_found}
use Rattle.rad_advice.proofs.unread.add_of_values.Given as goal

abbrev pub invariant-loop-value : goal.invariant-loop-value
invariant-loop-value l =
    (l.index ≡ l.value-index)
    × (map entry_found l.found.items ++ unread_in_items l.part l.value-index (read_names l.part) (items_view (drop l.value-index l.values))
    ≡ map entry_found l.fn.found.items ++ unread_in_items l.part 0 (read_names l.part) (items_view l.values))
