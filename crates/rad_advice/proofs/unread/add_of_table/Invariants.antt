use Rattle.std.proofs.Common.{◌≡◌, ◌++◌, map}
use Rattle.toml.specs.View.{members_view}
use Rattle.rad_advice.specs.Keys.{read_names, unread_in_table, entry_found}
use Rattle.rad_advice.proofs.unread.add_of_table.Given as goal

abbrev pub invariant-keys : goal.invariant-keys
invariant-keys l =
    (goal.iterator-keys).can_next l.key-iterator × (goal.iterator-keys).is_finite l.key-iterator
    × (map entry_found l.found.items ++ unread_in_table l.part l.index (read_names l.part) (members_view l.key-iterator)
    ≡ map entry_found l.fn.found.items ++ unread_in_table l.part l.index (read_names l.part) (members_view l.table.entries))
